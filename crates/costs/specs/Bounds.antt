-- What the facts give, over the invariant of one queue, for any number of levels, queues and nodes; v bounds the nodes that the queue has.
use Rattle.std.specs.Prelude.{ℕ, ◌≤◌, ◌<◌, ◌≡◌, List}
use Rattle.words.specs.declared.Sizes.{Sizes}
use Rattle.words.specs.declared.Node.{Node}
use Rattle.answers.specs.Most.{enqueue_most, operation_most}
use Rattle.table.specs.declared.After.TheVariants.{Done}
use Rattle.table.specs.Frames.{counted}
use Rattle.state.specs.Step.{State, then, row_of, stepped}
use Rattle.state.specs.Queues.{On}
use Rattle.invariant.specs.Sound.{Sound}
use Rattle.costs.specs.Costs.{Few, Paid}

-- the steps s of an operation op at level l that runs, and of one that has ended
pub record Below (l v op s : ℕ) : Type 0 where
  pub enqueue : op ≡ 1 → s < enqueue_most l v
  pub operation : s < operation_most l v

pub record AtMost (l v op s : ℕ) : Type 0 where
  pub enqueue : op ≡ 1 → s ≤ enqueue_most l v
  pub operation : s ≤ operation_most l v

-- after a step of level l: the facts, and the bound where it ended the operation
pub record Paying (s : Sizes) (q v l : ℕ) (W : State) : Type 0 where
  pub paid : Paid s q v (stepped s.levels l W)
  pub most : (n : Node) → then W.mem (row_of s.levels l (W.frames l)) (counted (W.frames l)) ≡ Done n
      → AtMost l v (W.frames l).op (counted (W.frames l)).steps

module _ (s : Sizes) (q v : ℕ) (W : State) (front : List ℕ) where
  -- An operation that runs has taken fewer steps than its bound.
  abbrev pub RunsBelow : Type 0
  RunsBelow = Sound s q W front → Paid s q v W → (l : ℕ) → On q (W.frames l) → Below l v (W.frames l).op (W.frames l).steps

  -- A step of the highest level that runs keeps the facts, and an operation that ends in it has taken at most its bound.
  abbrev pub StepKeeps : Type 0
  StepKeeps =
      Sound s q W front → Few s q v W → Paid s q v W → (l : ℕ) → l < s.levels → On q (W.frames l)
      → ((j : ℕ) → l < j → (W.frames j).op ≡ 0) → Paying s q v l W

-- A queue has at most the table's nodes.
abbrev pub FewNodes : Sizes → ℕ → State → List ℕ → Type 0
FewNodes s q W front = Sound s q W front → Few s q s.nodes W
