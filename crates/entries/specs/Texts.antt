-- The text of a schedule: steps with no begin between them are joined in one S line.
use Rattle.std.specs.Prelude.{ℕ, ◌+◌, cond, List, [], ◌∷◌, ◌++◌, length, eqb}
use Rattle.words.specs.declared.Sizes.{Sizes}
use Rattle.text.specs.declared.Opening.{Opening}
use Rattle.text.specs.declared.Event.{Event}
use Rattle.text.specs.declared.Event.TheVariants.{Enqueue, Dequeue, Steps}
use Rattle.text.specs.Text.{text_of}
use Rattle.ways.specs.declared.Op.{Op}
use Rattle.ways.specs.Schedules.{Move, step, begin}

-- how many steps are taken before the first begin, between the begins, and after the last; n were taken already
unfoldable pub counts : ℕ → List Move → List ℕ
counts n [] = n ∷ []
counts n (step ∷ ms) = counts (n + 1) ms
counts n (begin ∷ ms) = n ∷ counts 0 ms

unfoldable pub op_event : Op → Event
op_event o = cond (eqb o.op 1) (Enqueue o.level o.queue o.node) (Dequeue o.level o.queue)

-- no S line where there are no steps
unfoldable pub step_events : ℕ → List Event
step_events c = cond (eqb c 0) [] (Steps c ∷ [])

unfoldable pub first : List ℕ → ℕ
first [] = 0
first (c ∷ cs) = c

unfoldable pub others : List ℕ → List ℕ
others [] = []
others (c ∷ cs) = cs

-- the steps before each operation, the operation, and the steps after the last
unfoldable pub events_of : List ℕ → List Op → List Event
events_of cs [] = step_events (first cs)
events_of cs (o ∷ os) = step_events (first cs) ++ (op_event o ∷ events_of (others cs) os)

abbrev pub opening : Sizes → List Event → Opening
opening s es = record { levels = s.levels; queues = s.queues; nodes = s.nodes; events = length es }

-- the text of the events on a table of these sizes
abbrev pub events_text_of : Sizes → List Event → List ℕ
events_text_of s es = text_of (opening s es) es

abbrev pub schedule_events : List Op → List Move → List Event
schedule_events ops ms = events_of (counts 0 ms) ops

abbrev pub schedule_text : Sizes → List Op → List Move → List ℕ
schedule_text s ops ms = events_text_of s (schedule_events ops ms)
