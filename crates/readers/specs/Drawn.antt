-- The nodes that dequeues return, begun one after another at one level and run uninterrupted, until one says empty: `drained` of the
-- waiting count says how many, here they are themselves, in order.
use Rattle.std.specs.Prelude.{ℕ, zero, suc, cond, List, [], ◌∷◌, eqb}
use Rattle.words.specs.declared.Level.{Level}
use Rattle.words.specs.declared.Queue.{Queue}
use Rattle.words.specs.declared.Sizes.{Sizes}
use Rattle.answers.specs.Said.{Said, refused, says, Step, going_on, ended}
use Rattle.steps.specs.Step.{step_sized}
use Rattle.waiting.specs.Waiting.{dequeue_at}

-- from a step on that says this and leaves the table t
unfoldable pub drawn_on : Sizes → Queue → Level → (List ℕ → List ℕ) → Said Step → List ℕ → List ℕ
drawn_on s q l on (says going_on) t = on t
drawn_on s q l on (says (ended e)) t = cond (eqb e.node.0 0) [] (e.node.0 ∷ on (dequeue_at s q l t))
drawn_on s q l on (refused r) t = []

-- so many steps may follow
unfoldable pub drawn : Sizes → Queue → Level → ℕ → List ℕ → List ℕ
drawn s q l zero t = []
drawn s q l (suc left) t = drawn_on s q l (drawn s q l left) (step_sized s t).0 (step_sized s t).1

abbrev pub drawn_at : Sizes → Queue → Level → ℕ → List ℕ → List ℕ
drawn_at s q l steps t = drawn s q l steps (dequeue_at s q l t)
