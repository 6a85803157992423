-- What the events put into the log: at most one line for each operation that was begun, and that of a refusal. A schedule has a line for
-- each begin.
use Prim.Native.Nat.{ℕ, ◌+◌, ◌*◌, ◌≤◌}
use mathlib.Core.List.{List, [], ◌∷◌}
use native.Mathlib.Omega.{arith}
use Rattle.std.proofs.Math.ListN.{length, length-append}
use Rattle.text.specs.declared.Opening.{Opening}
use Rattle.text.specs.declared.Event.{Event}
use Rattle.text.specs.declared.Event.TheVariants.{Enqueue, Dequeue, Steps}
use Rattle.text.specs.Text.{lf, space, event_text, events_text, text_of}
use Rattle.lengths.specs.Lines.{field_least}

-- ---- the lines that events put into the log

-- 1 for an event that begins an operation
unfoldable pub begun_by : Event → ℕ
begun_by (Enqueue l q n) = 1
begun_by (Dequeue l q) = 1
begun_by (Steps count) = 0

unfoldable pub begun_in : List Event → ℕ
begun_in [] = 0
begun_in (e ∷ es) = begun_by e + begun_in es

-- ---- the schedule's lines

event_least : (e : Event) → 6 * begun_by e ≤ length (event_text e)
unfolding begun_by event_text
event_least (Enqueue l q n) =
    let level = field_least l.0 space in
    let queue = field_least q.0 space in
    let node = field_least n.0 lf in
    simp length-append (omega arith)
event_least (Dequeue l q) =
    let level = field_least l.0 space in let queue = field_least q.0 lf in simp length-append (omega arith)
event_least (Steps count) = omega arith

events_least : (es : List Event) → 6 * begun_in es ≤ length (events_text es)
unfolding begun_in events_text
events_least [] = omega arith
events_least (e ∷ es) =
    let first = event_least e in let rest = events_least es in simp length-append (omega arith)

pub begun_lines : (o : Opening) (es : List Event) → 6 * begun_in es ≤ length (text_of o es)
unfolding text_of
begun_lines o es = let events = events_least es in simp length-append (omega arith)
