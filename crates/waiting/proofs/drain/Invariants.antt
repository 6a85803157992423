use Prim.Native.Nat.{◌+◌, ◌≤◌}
use mathlib.Core.Path.{◌≡◌}
use lib.ListN.{length}
use Rattle.waiting.specs.Waiting.{drained}
use Rattle.waiting.specs.Inner.{Runs}
use Rattle.waiting.proofs.drain.Given as goal

abbrev pub invariant-loop-left : goal.invariant-loop-left
invariant-loop-left loop =
    (length loop.t ≡ length loop.initial.t)
    × Runs loop.s loop.t loop.l loop.q
    × (loop.n + loop.left ≤ loop.steps)
    × (drained loop.s loop.q loop.l loop.steps 0 loop.initial.t ≡ drained loop.s loop.q loop.l loop.left loop.n loop.t)

abbrev pub decreases-loop-left : goal.decreases-loop-left
decreases-loop-left loop = loop.left
