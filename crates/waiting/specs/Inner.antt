-- What our own functions hand each other about a copy that is drained.
use Rattle.std.specs.Prelude.{ℕ, ◌+◌, ◌≡◌, List, false, cond, ltb, Some}
use Rattle.words.specs.declared.Level.{Level}
use Rattle.words.specs.declared.Queue.{Queue}
use Rattle.words.specs.declared.Sizes.{Sizes}
use Rattle.words.specs.Layout.{level, measured}
use Rattle.words.specs.Inner.{Fits}
use Rattle.steps.specs.Step.{serving}
use Rattle.conditions.specs.Conditions.{no_queue, dequeued}

-- a table that was measured, and a queue of it that no level dequeues
pub record Ready (s : Sizes) (t : List ℕ) (q : Queue) : Type 0 where
  pub sized : measured t ≡ Some s
  pub known : no_queue s q ≡ false
  pub free : dequeued s t (level s.levels) q ≡ false

-- level l is the highest, the queue is one of the table's, and no lower level has a dequeue on it
pub record Alone (s : Sizes) (t : List ℕ) (l : Level) (q : Queue) : Type 0 where
  pub fits : Fits s t
  pub top : s.levels ≡ l.0 + 1
  pub known : no_queue s q ≡ false
  pub alone : dequeued s t l q ≡ false

-- and a dequeue runs there
pub record Runs (s : Sizes) (t : List ℕ) (l : Level) (q : Queue) : Type 0 where
  pub alone : Alone s t l q
  pub serves : serving s t s.levels ≡ Some l

-- as many of the steps left as one run can be given
unfoldable pub piece : ℕ → ℕ
piece left = cond (ltb left 65535) left 65535
