-- What the waiting count promises a reader: as many nodes as are counted on the copy, dequeues on the table itself return.
use Rattle.std.specs.Prelude.{ℕ, ◌≡◌, false, List, length}
use Rattle.words.specs.declared.Level.{Level}
use Rattle.words.specs.declared.Queue.{Queue}
use Rattle.words.specs.declared.Sizes.{Sizes}
use Rattle.words.specs.Layout.{level}
use Rattle.answers.specs.Said.{says}
use Rattle.conditions.specs.Conditions.{no_level, busy}
use Rattle.demand.specs.History.{Event}
use Rattle.demand.specs.Demand.{Reached}
use Rattle.words.specs.Copy.{taller, raised}
use Rattle.waiting.specs.Waiting.{drained_at, drain_steps, waiting_of}
use Rattle.readers.specs.Drawn.{drawn_at}

module _ (s : Sizes) (es : List Event) (t : List ℕ) (q : Queue) (l : Level) where
  -- At any moment of any history, where the count is n, and level l and all levels above it are idle: dequeues on the table itself, begun
  -- one after another at level l and each run to its end with nothing between, return n nodes, and then one says empty. They take no
  -- more steps than those on the copy may.
  abbrev pub WaitingRead : Type 0
  WaitingRead =
      Reached s es t → no_level s l ≡ false → busy s t l ≡ false
      → (n : ℕ) → waiting_of t q ≡ says n → drained_at s q l (drain_steps s) t ≡ says n

  -- These n nodes are those that the dequeues on the copy return, in the same order.
  abbrev pub SameNodes : Type 0
  SameNodes =
      Reached s es t → no_level s l ≡ false → busy s t l ≡ false → (n : ℕ) → waiting_of t q ≡ says n
      → (drawn_at s q l (drain_steps s) t ≡ drawn_at (taller s) q (level s.levels) (drain_steps s) (raised s t))
      × (length (drawn_at s q l (drain_steps s) t) ≡ n)
