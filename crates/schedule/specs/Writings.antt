-- From the text of a schedule to what is read there.
use Rattle.std.specs.Prelude.{ℕ, ◌+◌, ◌-◌, ◌≤◌, ◌≡◌, refl, List, [], ◌∷◌, ◌++◌, true, false, length, drop, get_or, Some}
use Rattle.std.proofs.Common.{sym, ap, ◌∙◌, append_assoc, append-nil, arith, length-drop, drop-drop, get_or-drop, le-leb, eq-eqb}
use Rattle.std.proofs.Math.Bool.{or-true}
use Rattle.std.proofs.Math.Seq.{drop-append_seam}
use Rattle.std.proofs.lemmas.List.{get_or_at}
use Rattle.decimals.specs.Decimals.{field_at, field_of, digits_of, width_of, is_digit}
use Rattle.decimals.specs.Laws.{length_field, length_digits}
use Rattle.decimals.specs.Inverse.{field_written}
use Rattle.heads.specs.Heads.{begins, stands_at}
use Rattle.heads.specs.Laws.{stands_own}
use Rattle.text.specs.declared.Opening.{Opening}
use Rattle.text.specs.declared.Event.{Event}
use Rattle.text.specs.declared.Event.TheVariants.{Enqueue, Dequeue, Steps}
use Rattle.text.specs.Text.{lf, space, head_sizes, head_e, head_d, head_s, longest, opening_text, event_text, events_text, text_of}
use Rattle.text.specs.Answer.{gives}
use Rattle.text.specs.Reading.{enqueue_in, dequeue_in, steps_in, event_in, line_starts, sizes_reading, event_reading, end_reading}
use Rattle.text.specs.Laws.{starts_in}
use Rattle.schedule.specs.Meaning.{small, sound, all_sound, Writable}
use Rattle.schedule.specs.Whole.{events_by, events_reading, schedule_reading}

-- what follows a part that stands at a place
pub after : (text xs rest : List ℕ) (at : ℕ) → drop at text ≡ xs ++ rest → drop (at + length xs) text ≡ rest
after text xs rest at e = sym (drop-drop (length xs) at text) ∙ ap (drop (length xs)) e ∙ drop-append_seam xs rest

-- a field is read, with the next place, the bytes there, and the byte before it
record FieldNext (end n : ℕ) (text : List ℕ) (at : ℕ) (rest : List ℕ) : Type 0 where
  next : ℕ
  is : field_at end text at ≡ Some (n, next)
  then : drop next text ≡ rest
  ends : get_or text (next - 1) 0 ≡ end

field_next : (end n : ℕ) (text rest : List ℕ) (at : ℕ) → is_digit end ≡ false → small n → drop at text ≡ field_of n end ++ rest
    → FieldNext end n text at rest
unfolding field_of
field_next end n text rest at d s e =
    let w : at + length (field_of n end) - 1 ≡ at + width_of n = omega (arith, length_field n end) in
    record {
      next = at + length (field_of n end);
      is = field_written end text rest at n s d e;
      then = after text (field_of n end) rest at e;
      ends = rw w (sym (get_or-drop at text (width_of n) 0) ∙ rw (e, append_assoc) (get_or_at (digits_of n) end rest 0 (width_of n) (length_digits n)));
    }

record EventNext (e : Event) (text : List ℕ) (place : ℕ) (rest : List ℕ) : Type 0 where
  next : ℕ
  is : event_in text place ≡ Some (e, next)
  then : drop next text ≡ rest
  ends : get_or text (next - 1) 0 ≡ lf

event_next : (e : Event) (text rest : List ℕ) (place : ℕ) → sound e → drop place text ≡ event_text e ++ rest → EventNext e text place rest
unfolding event_text sound event_in enqueue_in dequeue_in steps_in stands_at begins is_digit
event_next (Enqueue l q n) text rest place s e =
    let h : drop (place + 2) text ≡ field_of l.0 space ++ (field_of q.0 space ++ (field_of n.0 lf ++ rest)) =
    after text head_e _ place (e ∙ simp append_assoc)
    in
    let a = field_next space l.0 text _ (place + 2) refl s.0 h in
    let b = field_next space q.0 text _ a.next refl s.1 a.then in
    let c = field_next lf n.0 text _ b.next refl s.2 b.then in
    record { next = c.next; is = simp (e, a.is, b.is, c.is); then = c.then; ends = c.ends }
event_next (Dequeue l q) text rest place s e =
    let h : drop (place + 2) text ≡ field_of l.0 space ++ (field_of q.0 lf ++ rest) =
    after text head_d _ place (e ∙ simp append_assoc)
    in
    let a = field_next space l.0 text _ (place + 2) refl s.0 h in
    let b = field_next lf q.0 text _ a.next refl s.1 a.then in
    record { next = b.next; is = simp (e, a.is, b.is); then = b.then; ends = b.ends }
event_next (Steps k) text rest place s e =
    let a = field_next lf k text rest (place + 2) refl s.0 (after text head_s _ place e) in
    record { next = a.next; is = simp (e, a.is, le-leb 1 k s.1); then = a.then; ends = a.ends }

-- a line starts after an LF
starts : (text : List ℕ) (place : ℕ) → length text ≤ longest → get_or text (place - 1) 0 ≡ lf → line_starts text place ≡ true
unfolding line_starts
starts text place short e = simp (le-leb (length text) longest short, e, or-true)

record EventsNext (es : List Event) (text : List ℕ) (place : ℕ) (rest : List ℕ) : Type 0 where
  next : ℕ
  is : events_reading (length es) text place ≡ gives (es, next)
  then : drop next text ≡ rest
  starts : line_starts text next ≡ true

events_next : (es : List Event) (text rest : List ℕ) (place : ℕ) → length text ≤ longest → all_sound es → line_starts text place ≡ true
    → drop place text ≡ events_text es ++ rest → EventsNext es text place rest
unfolding events_text all_sound events_by event_reading
events_next [] text rest place short s l e = record { next = place; is = refl; then = e; starts = l }
events_next (e ∷ es) text rest place short s l h =
    let a = event_next e text (events_text es ++ rest) place s.0 (h ∙ simp append_assoc) in
    let b = events_next es text rest a.next short s.1 (starts text a.next short a.ends) a.then in
    record { next = b.next; is = simp (l, a.is, b.is); then = b.then; starts = b.starts }

record SizesNext (o : Opening) (text rest : List ℕ) : Type 0 where
  next : ℕ
  is : sizes_reading text ≡ gives (o, next)
  then : drop next text ≡ rest
  starts : line_starts text next ≡ true

sizes_next : (o : Opening) (text rest : List ℕ) → length text ≤ longest
    → small o.levels → small o.queues → small o.nodes → small o.events → text ≡ opening_text o ++ rest → SizesNext o text rest
unfolding opening_text sizes_reading line_starts stands_at begins is_digit
sizes_next o text rest short l q n k e =
    let h : drop 2 text ≡ field_of o.levels lf ++ (field_of o.queues lf ++ (field_of o.nodes lf ++ (field_of o.events lf ++ rest))) =
    after text head_sizes _ 0 (e ∙ simp append_assoc)
    in
    let a = field_next lf o.levels text _ 2 refl l h in
    let b = field_next lf o.queues text _ a.next refl q a.then in
    let c = field_next lf o.nodes text _ b.next refl n b.then in
    let d = field_next lf o.events text _ c.next refl k c.then in
    let head : stands_at head_sizes text 0 ≡ true = stands_own head_sizes text _ 0 e in
    record {
      next = d.next;
      is = simp (le-leb (length text) longest short, head, a.is, b.is, c.is, d.is);
      then = d.then;
      starts = starts text d.next short d.ends;
    }

-- the text of a schedule is read as that schedule
pub schedule_reads : (o : Opening) (es : List Event) → Writable o es → schedule_reading (text_of o es) ≡ gives (o, es)
unfolding schedule_reading text_of end_reading
schedule_reads o es w =
    let a = sizes_next o (text_of o es) (events_text es) w.short w.levels w.queues w.nodes w.events refl in
    let b = events_next es (text_of o es) [] a.next w.short w.each a.starts (a.then ∙ sym (append-nil (events_text es))) in
    let at : b.next ≡ length (text_of o es) =
    omega (arith, starts_in (text_of o es) b.next b.starts, length-drop b.next (text_of o es), ap length b.then)
    in
    simp (a.is, ← w.counted, b.is, b.starts, eq-eqb b.next (length (text_of o es)) at)
