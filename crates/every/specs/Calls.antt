-- The calls that a schedule makes, and the moves that its text tells.
use Rattle.std.specs.Prelude.{cond, List, [], ◌∷◌, ◌++◌, eqb, replicate}
use Rattle.answers.specs.Said.{Step}
use Rattle.text.specs.declared.Event as line
use Rattle.text.specs.declared.Event.TheVariants.{Enqueue, Dequeue, Steps}
use Rattle.demand.specs.History.{Event, enqueued, dequeued, stepped}
use Rattle.ways.specs.declared.Op.{Op}
use Rattle.ways.specs.Schedules as ways
use Rattle.ways.specs.Schedules.{Move}

-- the call that begins an operation
abbrev pub call_of : Op → Event
call_of o = cond (eqb o.op 1) (enqueued o.level o.queue o.node) (dequeued o.level o.queue)

-- these moves of these operations make these calls: a step, or the begin of the next operation
pub data Calls : List Move → List Op → List Event → Type 0 where
  none : Calls [] [] []
  step : {x : Step} {ms : List Move} {ops : List Op} {es : List Event} → Calls ms ops es
      → Calls (ways.step ∷ ms) ops (stepped x ∷ es)
  begin : {o : Op} {ms : List Move} {ops : List Op} {es : List Event} → Calls ms ops es
      → Calls (ways.begin ∷ ms) (o ∷ ops) (call_of o ∷ es)

-- the moves that the lines of a text tell: S n is n steps, E and D begin
abbrev pub moves_of : List line.Event → List Move
moves_of [] = []
moves_of (Steps n ∷ es) = replicate n ways.step ++ moves_of es
moves_of (Enqueue l q n ∷ es) = ways.begin ∷ moves_of es
moves_of (Dequeue l q ∷ es) = ways.begin ∷ moves_of es
