-- What the proofs of measuring and writing lines cite.
use Rattle.std.specs.Prelude.{ℕ, ◌+◌, ◌≤◌, ◌≡◌, length}
use Rattle.std.proofs.Common.{arith, length-append}
use Rattle.decimals.specs.Decimals.{field_of}
use Rattle.decimals.specs.Laws.{length_field, width_top}
use Rattle.words.specs.declared.Level.{Level}
use Rattle.words.specs.declared.Queue.{Queue}
use Rattle.words.specs.declared.Node.{Node}
use Rattle.text.specs.declared.Opening.{Opening}
use Rattle.text.specs.declared.Event.{Event}
use Rattle.text.specs.declared.Event.TheVariants.{Enqueue, Dequeue, Steps}
use Rattle.text.specs.Text.{lf, space, event_text, opening_text}

pub enqueue_length : (l : Level) (q : Queue) (n : Node) → length (event_text (Enqueue l q n))
    ≡ 2 + (length (field_of l.0 space) + (length (field_of q.0 space) + length (field_of n.0 lf)))
unfolding event_text
enqueue_length l q n = simp length-append (omega arith)

pub dequeue_length : (l : Level) (q : Queue) → length (event_text (Dequeue l q))
    ≡ 2 + (length (field_of l.0 space) + length (field_of q.0 lf))
unfolding event_text
dequeue_length l q = simp length-append (omega arith)

pub steps_length : (count : ℕ) → length (event_text (Steps count)) ≡ 2 + length (field_of count lf)
unfolding event_text
steps_length count = omega arith

pub opening_length : (o : Opening) → length (opening_text o)
    ≡ 2 + (length (field_of o.levels lf) + (length (field_of o.queues lf) + (length (field_of o.nodes lf) + length (field_of o.events lf))))
unfolding opening_text
opening_length o = simp length-append (omega arith)

-- ---- the most bytes that a line has, whatever its numbers are

field_top : (n end : ℕ) → length (field_of n end) ≤ 6
field_top n end = omega (arith, length_field n end, width_top n)

pub steps_top : (count : ℕ) → length (event_text (Steps count)) ≤ 8
steps_top count = omega (arith, steps_length count, field_top count lf)

pub event_top : (e : Event) → length (event_text e) ≤ 20
event_top (Enqueue l q n) =
    omega (arith, enqueue_length l q n, field_top l.0 space, field_top q.0 space, field_top n.0 lf)
event_top (Dequeue l q) = omega (arith, dequeue_length l q, field_top l.0 space, field_top q.0 lf)
event_top (Steps count) = omega (arith, steps_top count)

pub opening_top : (o : Opening) → length (opening_text o) ≤ 26
opening_top o =
    omega (
      arith,
      opening_length o,
      field_top o.levels lf,
      field_top o.queues lf,
      field_top o.nodes lf,
      field_top o.events lf,
    )

-- what the functions' proofs go by
pub ruleset lengths = (enqueue_length, dequeue_length, steps_length, opening_length, length_field, width_top)
