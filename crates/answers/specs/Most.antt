-- How many steps of its own an operation takes at most, at level l of a table of n nodes, whatever interrupts it (crate limits shows it).
use Rattle.std.specs.Prelude.{ℕ, ◌+◌, ◌*◌}

-- an enqueue
abbrev pub enqueue_most : ℕ → ℕ → ℕ
enqueue_most l n = (l + 2) * (n + 6)

-- an enqueue or a dequeue, the enqueue of its sentinel included
abbrev pub operation_most : ℕ → ℕ → ℕ
operation_most l n = (l + 1) * (n + 6) + 15
