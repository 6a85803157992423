-- From words to schedules that can be written, and back.
use Rattle.std.specs.Prelude.{ℕ, zero, suc, ◌+◌, ◌≤◌, ◌≡◌, refl, List, [], ◌∷◌, ◌++◌, length, get_or, drop, Some}
use Rattle.std.proofs.Common.{sym, ap, ◌∙◌, append_assoc, append-nil, arith, add-zero, length-drop, get_or-drop, le-leb}
use Rattle.std.proofs.Math.Bool.{and-false}
use Rattle.text.specs.declared.Opening.{Opening}
use Rattle.text.specs.declared.Event.{Event}
use Rattle.text.specs.declared.Event.TheVariants.{Enqueue, Dequeue, Steps}
use Rattle.text.specs.Text.{text_of, longest}
use Rattle.text.specs.Answer.{gives}
use Rattle.text.specs.Laws.{onto_is}
use Rattle.schedule.specs.Writings.{after}
use Rattle.schedule.specs.Meaning.{small, sound, all_sound, Writable}
use Rattle.writing.specs.Writing.{event_words, events_words, words_of, is_kind, event_in, found, events_in, opening_in, schedule_in, fitting, text_in}
use Rattle.writing.specs.Laws.{Told, enqueued, dequeued, stepped, event_told, found_is, Saying, saying, Fitting, fitting_is}

-- the words are 16-bit
abbrev pub all_small : List ℕ → Type 0
all_small words = (i : ℕ) → small (get_or words i 0)

event_sound : (words : List ℕ) (at next : ℕ) (e : Event) → all_small words → event_in words at ≡ Some (e, next) → sound e
unfolding sound
event_sound words at next e s h = by (event_told words at next e h)
  where
    by : Told words at e next → sound e
    by (enqueued r n k) = rw (← k) (s (at + 1), s (at + 2), s (at + 3))
    by (dequeued r n k) = rw (← k) (s (at + 1), s (at + 2))
    by (stepped r n c k) = rw (← k) (s (at + 1), c)

record AllTold (k : ℕ) (es : List Event) : Type 0 where
  counted : length es ≡ k
  each : all_sound es

events_told : (k line : ℕ) (words : List ℕ) (at : ℕ) (es : List Event) → all_small words → events_in k line words at ≡ gives es → AllTold k es
unfolding events_in all_sound
events_told zero line words at es s h =
    let e : [] ≡ es = cc in
    let r : AllTold 0 [] = record { counted = refl; each = tt } in
    rw e at r
events_told (suc k) line words at es s h =
    let a = onto_is (found line (event_in words at)) _ es h in
    let b = onto_is (events_in k (suc line) words a.0.1) _ es a.2 in
    let e : a.0.0 ∷ b.0 ≡ es = cc in
    let i = events_told k (suc line) words a.0.1 b.0 s b.1 in
    let d = event_sound words at a.0.1 a.0.0 s (found_is line (event_in words at) a.0.0 a.0.1 a.1) in
    let r : AllTold (suc k) (a.0.0 ∷ b.0) = record { counted = ap suc i.counted; each = (d, i.each) } in
    same (a.0.0 ∷ b.0) e r
  where
    same : (xs : List Event) → xs ≡ es → AllTold (suc k) xs → AllTold (suc k) es
    same xs e r = rw e at r

-- words that have a text are a schedule that can be written
pub record Stands (words text : List ℕ) : Type 0 where
  pub opening : Opening
  pub events : List Event
  pub meant : schedule_in words ≡ gives (opening, events)
  pub is : text ≡ text_of opening events
  pub writable : Writable opening events

pub stands : (words text : List ℕ) → all_small words → text_in words ≡ gives text → Stands words text
unfolding text_in
stands words text s h =
    let a = onto_is (schedule_in words) _ text h in
    by a.0.0 a.0.1 a.1 (saying words a.0.0 a.0.1 a.1) (fitting_is (text_of a.0.0 a.0.1) text a.2)
  where
    by : (o : Opening) (es : List Event) → schedule_in words ≡ gives (o, es) → Saying words o es → Fitting (text_of o es) text → Stands words text
    by o es m y f =
        let t = events_told (opening_in words).events 6 words 4 es s y.events in
        record {
          opening = o;
          events = es;
          meant = m;
          is = sym f.is;
          writable =
              record {
                levels = rw (← y.opening) (s 0);
                queues = rw (← y.opening) (s 1);
                nodes = rw (← y.opening) (s 2);
                events = rw (← y.opening) (s 3);
                counted = t.counted ∙ ap (λ (p : Opening). p.events) y.opening;
                each = t.each;
                short = f.short;
              };
        }

-- the words of a schedule stand for it
word : (words rest : List ℕ) (at i : ℕ) → drop at words ≡ rest → get_or words (at + i) 0 ≡ get_or rest i 0
word words rest at i e = sym (get_or-drop at words i 0) ∙ ap (λ (l : List ℕ). get_or l i 0) e

record EventNext (e : Event) (words : List ℕ) (at : ℕ) (rest : List ℕ) : Type 0 where
  next : ℕ
  is : event_in words at ≡ Some (e, next)
  then : drop next words ≡ rest

event_next : (e : Event) (words rest : List ℕ) (at : ℕ) → sound e → drop at words ≡ event_words e ++ rest → EventNext e words at rest
unfolding event_words sound event_in is_kind
event_next (Enqueue l q n) words rest at s e =
    let w = word words (event_words (Enqueue l q n) ++ rest) at in
    let long : at + 4 ≤ length words = omega (arith, length-drop at words, ap length e) in
    let kind : get_or words at 0 ≡ 1 = rw add-zero at (w 0 e) in
    record {
      next = at + 4;
      is = simp (le-leb (at + 4) (length words) long, kind, w 1 e, w 2 e, w 3 e);
      then = after words (event_words (Enqueue l q n)) rest at e;
    }
event_next (Dequeue l q) words rest at s e =
    let w = word words (event_words (Dequeue l q) ++ rest) at in
    let long : at + 3 ≤ length words = omega (arith, length-drop at words, ap length e) in
    let kind : get_or words at 0 ≡ 2 = rw add-zero at (w 0 e) in
    record {
      next = at + 3;
      is = simp (kind, and-false, le-leb (at + 3) (length words) long, w 1 e, w 2 e);
      then = after words (event_words (Dequeue l q)) rest at e;
    }
event_next (Steps count) words rest at s e =
    let w = word words (event_words (Steps count) ++ rest) at in
    let long : at + 2 ≤ length words = omega (arith, length-drop at words, ap length e) in
    let kind : get_or words at 0 ≡ 3 = rw add-zero at (w 0 e) in
    record {
      next = at + 2;
      is = simp (kind, and-false, le-leb (at + 2) (length words) long, w 1 e, le-leb 1 count s.1);
      then = after words (event_words (Steps count)) rest at e;
    }

events_next : (es : List Event) (words rest : List ℕ) (line at : ℕ) → all_sound es → drop at words ≡ events_words es ++ rest
    → events_in (length es) line words at ≡ gives es
unfolding events_in events_words all_sound found
events_next [] words rest line at s e = refl
events_next (e ∷ es) words rest line at s h =
    let a = event_next e words (events_words es ++ rest) at s.0 (h ∙ simp append_assoc) in
    simp (a.is, events_next es words rest (suc line) a.next s.1 a.then)

fits : (s : List ℕ) → length s ≤ longest → fitting s ≡ gives s
unfolding fitting
fits s h = simp (le-leb (length s) longest h)

-- the words of a schedule that can be written have its text
pub words_stand : (o : Opening) (es : List Event) → Writable o es → text_in (words_of o es) ≡ gives (text_of o es)
unfolding text_in schedule_in words_of
words_stand o es w =
    let four : 4 ≤ length (words_of o es) = omega arith in
    let all = rw w.counted at (events_next es (words_of o es) [] 6 4 w.each (sym (append-nil (events_words es)))) in
    simp (le-leb 4 (length (words_of o es)) four, all) (fits (text_of o es) w.short)
