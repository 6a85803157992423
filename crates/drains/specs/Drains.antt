-- What the waiting count answers on a table reached from fresh, at any moment of any history of accepted calls.
use Rattle.std.specs.Prelude.{ℕ, ◌≤◌, ◌≡◌, false, cond, List, length}
use Rattle.words.specs.declared.Queue.{Queue}
use Rattle.words.specs.declared.Sizes.{Sizes}
use Rattle.words.specs.Layout.{level}
use Rattle.answers.specs.Said.{refused, says}
use Rattle.conditions.specs.Conditions.{no_queue, dequeued}
use Rattle.demand.specs.History.{Event, still_in}
use Rattle.demand.specs.Demand.{Reached, QuietAt}
use Rattle.waiting.specs.Waiting.{waiting_of}
use Rattle.drains.specs.Naming.{naming}

module _ (s : Sizes) (es : List Event) (t : List ℕ) (q : Queue) where
  -- Of a queue 1..Q it is refusal 8 where a dequeue is on the queue, and else a number: the dequeues on the copy always end. Never 10.
  abbrev pub WaitingEnds : Type 0
  WaitingEnds =
      Reached s es t → no_queue s q ≡ false
      → (n : ℕ) × (waiting_of t q ≡ cond (dequeued s t (level s.levels) q) (refused 8) (says n))

  -- It is never more than the nodes whose use names the queue.
  abbrev pub WaitingFew : Type 0
  WaitingFew = (n : ℕ) → Reached s es t → waiting_of t q ≡ says n → n ≤ naming s t q s.nodes

  -- At a quiet moment it is the number of nodes that the listing call lists.
  abbrev pub WaitingQuiet : Type 0
  WaitingQuiet = Reached s es t → QuietAt t q → waiting_of t q ≡ says (length (still_in s t q))
