-- From a reading to the bytes that were read.
use Rattle.std.specs.Prelude.{ℕ, zero, suc, ◌+◌, ◌≤◌, ◌≡◌, refl, List, [], ◌∷◌, ◌++◌, Bool, true, false, cond, ◌&&◌, length, drop, leb, eqb, Option, Some, None}
use Rattle.std.proofs.Common.{ap, ◌∙◌, append_assoc, append-nil, leb-true, eqb-true}
use Rattle.std.proofs.Math.Bool.{and-eq-true_iff}
use Rattle.std.proofs.lemmas.Option.{none-some, some_pair_parts}
use Rattle.std.proofs.Math.Seq.{drop-length}
use Rattle.words.specs.Layout.{level, queue, node}
use Rattle.decimals.specs.Decimals.{field_at, field_of}
use Rattle.decimals.proofs.ReadBack.{field_reads}
use Rattle.heads.specs.Heads.{stands_at}
use Rattle.heads.specs.Laws.{stands_is}
use Rattle.text.specs.declared.Opening.{Opening}
use Rattle.text.specs.declared.Event.{Event}
use Rattle.text.specs.declared.Event.TheVariants.{Enqueue, Dequeue, Steps}
use Rattle.text.specs.Text.{lf, space, head_sizes, head_e, head_d, head_s, longest, opening_text, event_text, events_text, text_of}
use Rattle.text.specs.Answer.{Answer, gives}
use Rattle.text.specs.Reading.{with, enqueue_in, dequeue_in, steps_in, event_in, found, line_starts, wrong_at, number_line, sizes_reading, event_reading, end_reading}
use Rattle.text.specs.Laws.{onto_is, given_is}
use Rattle.schedule.specs.Meaning.{small, sound, all_sound, Writable}
use Rattle.schedule.specs.Whole.{events_by, events_reading, schedule_reading}

-- a field was read, where what came of it is not what stands in for it
with_is : {A : Type 0} (other x : A) (r : Option (ℕ × ℕ)) (f : ℕ → ℕ → A) → (other ≡ x → ⊥) → with other r f ≡ x
    → (n : ℕ) × (p : ℕ) × (r ≡ Some (n, p)) × (f n p ≡ x)
with_is other x (Some (n, p)) f d e = (n, p, refl, e)
with_is other x None f d e = absurd (d e)

-- an event was found: its line stands at the place, up to the next place
record Line (e : Event) (s t : List ℕ) : Type 0 where
  is : s ≡ event_text e ++ t
  good : sound e

enqueue_reads : (text s : List ℕ) (at next : ℕ) (e : Event) → s ≡ head_e ++ drop at text → enqueue_in text at ≡ Some (e, next)
    → Line e s (drop next text)
unfolding enqueue_in event_text sound
enqueue_reads text s at next e h k =
    let a = with_is None (Some (e, next)) (field_at space text at) _ (none-some (e, next)) k in
    let b = with_is None (Some (e, next)) (field_at space text a.1) _ (none-some (e, next)) a.3 in
    let c = with_is None (Some (e, next)) (field_at lf text b.1) _ (none-some (e, next)) b.3 in
    let l = field_reads space text at a.0 a.1 a.2 in
    let q = field_reads space text a.1 b.0 b.1 b.2 in
    let n = field_reads lf text b.1 c.0 c.1 c.2 in
    let (is, to) = some_pair_parts (Enqueue (level a.0) (queue b.0) (node c.0)) e c.1 next c.3 in
    let r : Line (Enqueue (level a.0) (queue b.0) (node c.0)) s (drop next text) =
    record { is = h ∙ simp (l.is, q.is, n.is, append_assoc, to); good = (l.small, q.small, n.small) }
    in
    rw is at r

dequeue_reads : (text s : List ℕ) (at next : ℕ) (e : Event) → s ≡ head_d ++ drop at text → dequeue_in text at ≡ Some (e, next)
    → Line e s (drop next text)
unfolding dequeue_in event_text sound
dequeue_reads text s at next e h k =
    let a = with_is None (Some (e, next)) (field_at space text at) _ (none-some (e, next)) k in
    let b = with_is None (Some (e, next)) (field_at lf text a.1) _ (none-some (e, next)) a.3 in
    let l = field_reads space text at a.0 a.1 a.2 in
    let q = field_reads lf text a.1 b.0 b.1 b.2 in
    let (is, to) = some_pair_parts (Dequeue (level a.0) (queue b.0)) e b.1 next b.3 in
    let r : Line (Dequeue (level a.0) (queue b.0)) s (drop next text) =
    record { is = h ∙ simp (l.is, q.is, append_assoc, to); good = (l.small, q.small) }
    in
    rw is at r

steps_reads : (text s : List ℕ) (at next : ℕ) (e : Event) → s ≡ head_s ++ drop at text → steps_in text at ≡ Some (e, next)
    → Line e s (drop next text)
unfolding steps_in event_text sound
steps_reads text s at next e h k =
    let a = with_is None (Some (e, next)) (field_at lf text at) _ (none-some (e, next)) k in
    let n = field_reads lf text at a.0 a.1 a.2 in
    by (leb 1 a.0) a.0 a.1 refl n.small n.is a.3
  where
    by : (t : Bool) (count p : ℕ) → leb 1 count ≡ t → count ≤ 65535 → drop at text ≡ field_of count lf ++ drop p text
        → cond {A = Option (Event × ℕ)} t (Some (Steps count, p)) None ≡ Some (e, next) → Line e s (drop next text)
    by true count p f c is g =
        let (same, to) = some_pair_parts (Steps count) e p next g in
        let r : Line (Steps count) s (drop next text) = record { is = h ∙ simp (is, to); good = (c, leb-true 1 count f) } in
        rw same at r
    by false count p f c is g = absurd (none-some (e, next) g)

event_reads : (text : List ℕ) (place next : ℕ) (e : Event) → event_in text place ≡ Some (e, next) → Line e (drop place text) (drop next text)
unfolding event_in
event_reads text place next e k =
    by (stands_at head_e text place) (stands_at head_d text place) (stands_at head_s text place)
    (stands_is head_e text place) (stands_is head_d text place) (stands_is head_s text place) k
  where
    by : (x y z : Bool) → (x ≡ true → drop place text ≡ head_e ++ drop (place + 2) text)
        → (y ≡ true → drop place text ≡ head_d ++ drop (place + 2) text) → (z ≡ true → drop place text ≡ head_s ++ drop (place + 2) text)
        → cond x (enqueue_in text (place + 2)) (cond y (dequeue_in text (place + 2)) (cond z (steps_in text (place + 2)) None)) ≡ Some (e, next)
        → Line e (drop place text) (drop next text)
    by true y z f g h k = enqueue_reads text (drop place text) (place + 2) next e (f refl) k
    by false true z f g h k = dequeue_reads text (drop place text) (place + 2) next e (g refl) k
    by false false true f g h k = steps_reads text (drop place text) (place + 2) next e (h refl) k
    by false false false f g h k = absurd (none-some (e, next) k)

not_wrong : {A : Type 0} (text : List ℕ) (place : ℕ) (x : A) → wrong_at text place ≡ gives x → ⊥
not_wrong text place x e = cc

cond_is : {A : Type 0} (t : Bool) (a : Answer A) (text : List ℕ) (place : ℕ) (x : A) → cond t a (wrong_at text place) ≡ gives x
    → (t ≡ true) × (a ≡ gives x)
cond_is true a text place x e = (refl, e)
cond_is false a text place x e = absurd (not_wrong text place x e)

found_is : (text : List ℕ) (place next : ℕ) (e : Event) (r : Option (Event × ℕ)) → found text place r ≡ gives (e, next) → r ≡ Some (e, next)
found_is text place next e (Some (d, p)) h = let x = given_is d e p next h in rw (x.0, x.1)
found_is text place next e None h = absurd (not_wrong text place (e, next) h)

event_answers : (text : List ℕ) (place next : ℕ) (e : Event) → event_reading text place ≡ gives (e, next)
    → Line e (drop place text) (drop next text)
unfolding event_reading
event_answers text place next e h =
    event_reads text place next e
    (found_is text place next e (event_in text place) (cond_is (line_starts text place) _ text place (e, next) h).1)

pub record Lines (es : List Event) (k : ℕ) (s t : List ℕ) : Type 0 where
  pub is : s ≡ events_text es ++ t
  pub each : all_sound es
  pub counted : length es ≡ k

events_answer : (k : ℕ) (text : List ℕ) (place next : ℕ) (es : List Event) → events_reading k text place ≡ gives (es, next)
    → Lines es k (drop place text) (drop next text)
unfolding events_by events_text all_sound
events_answer zero text place next es h =
    let x = given_is [] es place next h in
    let r : Lines [] 0 (drop place text) (drop next text) = record { is = rw x.1 refl; each = tt; counted = refl } in
    rw x.0 at r
events_answer (suc k) text place next es h =
    let a = onto_is (event_reading text place) _ (es, next) h in
    let b = onto_is (events_reading k text a.0.1) _ (es, next) a.2 in
    let x = given_is (a.0.0 ∷ b.0.0) es b.0.1 next b.2 in
    let l = event_answers text place a.0.1 a.0.0 a.1 in
    let ls = events_answer k text a.0.1 b.0.1 b.0.0 b.1 in
    let r : Lines (a.0.0 ∷ b.0.0) (suc k) (drop place text) (drop b.0.1 text) =
    record { is = l.is ∙ rw (ls.is, append_assoc); each = (l.good, ls.each); counted = ap suc ls.counted }
    in
    rw (x.0, x.1) at r

number_is : {A : Type 0} (text : List ℕ) (place : ℕ) (x : A) (f : ℕ → ℕ → Answer A) → number_line text place f ≡ gives x
    → (n : ℕ) × (p : ℕ) × (field_at lf text place ≡ Some (n, p)) × (f n p ≡ gives x)
number_is text place x f h = with_is (wrong_at text place) (gives x) (field_at lf text place) f (not_wrong text place x) h

pub record Opens (o : Opening) (s t : List ℕ) : Type 0 where
  pub is : s ≡ opening_text o ++ t
  pub levels : small o.levels
  pub queues : small o.queues
  pub nodes : small o.nodes
  pub events : small o.events

sizes_answer : (text : List ℕ) (next : ℕ) (o : Opening) → sizes_reading text ≡ gives (o, next) → Opens o text (drop next text)
unfolding sizes_reading opening_text
sizes_answer text next o h =
    let z = cond_is (line_starts text 0 && stands_at head_sizes text 0) _ text 0 (o, next) h in
    let a = number_is text 2 (o, next) _ z.1 in
    let b = number_is text a.1 (o, next) _ a.3 in
    let c = number_is text b.1 (o, next) _ b.3 in
    let d = number_is text c.1 (o, next) _ c.3 in
    let l = field_reads lf text 2 a.0 a.1 a.2 in
    let q = field_reads lf text a.1 b.0 b.1 b.2 in
    let n = field_reads lf text b.1 c.0 c.1 c.2 in
    let e = field_reads lf text c.1 d.0 d.1 d.2 in
    let x = given_is (record { levels = a.0; queues = b.0; nodes = c.0; events = d.0 }) o d.1 next d.3 in
    let r : Opens (record { levels = a.0; queues = b.0; nodes = c.0; events = d.0 }) text (drop d.1 text) =
    record {
      is = stands_is head_sizes text 0 ((and-eq-true_iff (line_starts text 0) (stands_at head_sizes text 0)).0 z.0).1
          ∙ simp (l.is, q.is, n.is, e.is, append_assoc);
      levels = l.small;
      queues = q.small;
      nodes = n.small;
      events = e.small;
    }
    in
    rw (x.0, x.1) at r

pub record Ended (text : List ℕ) (place : ℕ) : Type 0 where
  pub short : length text ≤ longest
  pub at : place ≡ length text

end_answers : (text : List ℕ) (place : ℕ) → end_reading text place ≡ gives tt → Ended text place
unfolding end_reading line_starts
end_answers text place h =
    let z = cond_is (line_starts text place && eqb place (length text)) _ text place tt h in
    let two = (and-eq-true_iff (line_starts text place) (eqb place (length text))).0 z.0 in
    record {
      short = leb-true (length text) longest ((and-eq-true_iff (leb (length text) longest) _).0 two.0).0;
      at = eqb-true place (length text) two.1;
    }

-- a whole text that was read is the text of what was read
pub record Whole (o : Opening) (es : List Event) (text : List ℕ) : Type 0 where
  pub is : text ≡ text_of o es
  pub writable : Writable o es

pub schedule_answers : (text : List ℕ) (o : Opening) (es : List Event) → schedule_reading text ≡ gives (o, es) → Whole o es text
unfolding schedule_reading text_of
schedule_answers text o es h =
    let a = onto_is (sizes_reading text) _ (o, es) h in
    let b = onto_is (events_reading a.0.0.events text a.0.1) _ (o, es) a.2 in
    let c = onto_is (end_reading text b.0.1) _ (o, es) b.2 in
    let x = given_is a.0.0 o b.0.0 es c.2 in
    let opens = sizes_answer text a.0.1 a.0.0 a.1 in
    let lines = events_answer a.0.0.events text a.0.1 b.0.1 b.0.0 b.1 in
    let ended = end_answers text b.0.1 c.1 in
    let whole : text ≡ text_of a.0.0 b.0.0 = opens.is ∙ rw (lines.is, ended.at, drop-length) (rw append-nil refl) in
    let r : Whole a.0.0 b.0.0 text =
    record {
      is = whole;
      writable =
          record {
            levels = opens.levels;
            queues = opens.queues;
            nodes = opens.nodes;
            events = opens.events;
            counted = lines.counted;
            each = lines.each;
            short = rw whole at ended.short;
          };
    }
    in
    same a.0.0 b.0.0 x.0 x.1 r
  where
    same : (p : Opening) (ps : List Event) → p ≡ o → ps ≡ es → Whole p ps text → Whole o es text
    same p ps x y r = rw (x, y) at r
