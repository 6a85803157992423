-- The waiting count of a queue: how many nodes dequeues return, begun one after another and run uninterrupted at the new level of a copy
-- of the table with one more idle level on top, until one says empty.
use Rattle.std.specs.Prelude.{ℕ, zero, suc, ◌+◌, ◌*◌, List, cond, eqb, Option, Some, None}
use Rattle.words.specs.declared.Level.{Level}
use Rattle.words.specs.declared.Queue.{Queue}
use Rattle.words.specs.declared.Sizes.{Sizes}
use Rattle.words.specs.Layout.{level, measured}
use Rattle.words.specs.Copy.{taller, raised}
use Rattle.answers.specs.Said.{Said, refused, says, Step, going_on, ended}
use Rattle.conditions.specs.Conditions.{no_queue, dequeued}
use Rattle.begins.specs.Begin.{dequeue_sized}
use Rattle.steps.specs.Step.{step_sized}

-- the table with a dequeue begun at level l, or as it was where that is refused
abbrev pub dequeue_at : Sizes → Queue → Level → List ℕ → List ℕ
dequeue_at s q l t = (dequeue_sized s t l q).1

-- n nodes were returned before a step that says this and leaves the table t: the dequeue goes on; it says empty; it returns a node, and
-- the next one begins; it meets a refusal
unfoldable pub drain_on : Sizes → Queue → Level → (ℕ → List ℕ → Said ℕ) → ℕ → Said Step → List ℕ → Said ℕ
drain_on s q l on n (says going_on) t = on n t
drain_on s q l on n (says (ended e)) t = cond (eqb e.node.0 0) (says n) (on (n + 1) (dequeue_at s q l t))
drain_on s q l on n (refused r) t = refused 10

-- n nodes were returned, and so many steps may follow
unfoldable pub drained : Sizes → Queue → Level → ℕ → ℕ → List ℕ → Said ℕ
drained s q l zero n t = refused 10
drained s q l (suc left) n t = drain_on s q l (drained s q l left) n (step_sized s t).0 (step_sized s t).1

-- how many nodes dequeues at level l return, begun one after another, until one says empty; all of them take so many steps at most
abbrev pub drained_at : Sizes → Queue → Level → ℕ → List ℕ → Said ℕ
drained_at s q l steps t = drained s q l steps 0 (dequeue_at s q l t)

-- (L + 3) × (N + 7) × (N + 1)
abbrev pub drain_steps : Sizes → ℕ
drain_steps s = (s.levels + 3) * (s.nodes + 7) * (s.nodes + 1)

-- on the copy the new level has the number L
abbrev pub waiting_in : Sizes → List ℕ → Queue → Said ℕ
waiting_in s t q = drained_at (taller s) q (level s.levels) (drain_steps s) (raised s t)

-- 8: a dequeue on the queue, at any level
unfoldable pub waiting_sized : Sizes → List ℕ → Queue → Said ℕ
waiting_sized s t q =
    cond (no_queue s q) (refused 4) (cond (dequeued s t (level s.levels) q) (refused 8) (waiting_in s t q))

unfoldable pub waiting_measured : List ℕ → Queue → Option Sizes → Said ℕ
waiting_measured t q None = refused 1
waiting_measured t q (Some s) = waiting_sized s t q

-- refusals 1, 4, 8, 10
unfoldable pub waiting_of : List ℕ → Queue → Said ℕ
waiting_of t q = waiting_measured t q (measured t)
