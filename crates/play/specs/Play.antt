-- The events of a schedule, performed in order: what they put into the log, and the table afterwards.
use Rattle.std.specs.Prelude.{ℕ, zero, suc, List, [], ◌∷◌, ◌++◌}
use Rattle.answers.specs.declared.End.{End}
use Rattle.answers.specs.Said.{Said, refused, says, Step, going_on, ended}
use Rattle.text.specs.declared.Event.{Event}
use Rattle.text.specs.declared.Event.TheVariants.{Enqueue, Dequeue, Steps}
use Rattle.steps.specs.Step.{step_of}
use Rattle.begins.specs.Begin.{enqueue_of, dequeue_of}
use Rattle.loglines.specs.Lines.{refusal_line}

-- an event's lines, then whether it is refused, and the table afterwards
abbrev pub Played : Type 0
Played = List ℕ × (Said Unit × List ℕ)

abbrev pub before : {A : Type 0} → List ℕ → List ℕ × A → List ℕ × A
before line p = (line ++ p.0, p.1)

-- line: the line that an ended operation has in the log
module _ (line : End → List ℕ) where
  -- a step, and those that follow it: each ended operation has its line; at a refusal the steps before it stand
  unfoldable pub go_on : (List ℕ → Played) → Said Step × List ℕ → Played
  go_on others (says going_on, t) = others t
  go_on others (says (ended e), t) = before (line e) (others t)
  go_on others (refused r, t) = ([], (refused r, t))

  -- so many steps, past ended operations until their count is spent
  unfoldable pub steps_of : ℕ → List ℕ → Played
  steps_of zero t = ([], (says tt, t))
  steps_of (suc n) t = go_on (steps_of n) (step_of t)

  unfoldable pub event_of : Event → List ℕ → Played
  event_of (Enqueue l q n) t = ([], enqueue_of t l q n)
  event_of (Dequeue l q) t = ([], dequeue_of t l q)
  event_of (Steps count) t = steps_of count t

-- an event, counted i, and those that follow it; a refused one has the line `R event number` and stops the events
unfoldable pub follow : ℕ → (List ℕ → List ℕ × List ℕ) → Played → List ℕ × List ℕ
follow i others (lines, (says _, t)) = before lines (others t)
follow i others (lines, (refused r, t)) = (lines ++ refusal_line i r, t)

-- the events in order, the first of them counted i
unfoldable pub events_of : (End → List ℕ) → ℕ → List Event → List ℕ → List ℕ × List ℕ
events_of line i [] t = ([], t)
events_of line i (e ∷ es) t = follow i (events_of line (suc i) es) (event_of line e t)
