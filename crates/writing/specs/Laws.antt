-- What the proofs of the writing cite.
use Rattle.std.specs.Prelude.{ℕ, zero, suc, ◌+◌, ◌-◌, ◌≤◌, ◌<◌, ◌≡◌, refl, List, [], ◌∷◌, ◌++◌, Bool, true, false, cond, ◌&&◌, length, get_or, drop, leb, eqb, Option, Some, None}
use Rattle.std.proofs.Common.{sym, ap, ◌∙◌, arith, zero-add, add-zero, add_assoc, add-one, sub-one, length-append, length-drop, get_or-drop, leb-true, le-leb}
use Rattle.std.proofs.Math.Bool.{and-eq-true_iff}
use Rattle.std.proofs.lemmas.List.Edits.{sets-eq}
use Rattle.std.proofs.lemmas.Bool.{lt-leb}
use Rattle.std.proofs.lemmas.Bool.Decides.{nat_tests}
use Rattle.std.proofs.lemmas.Option.{some_pair_parts}
use Rattle.words.specs.Layout.{level, queue, node}
use Rattle.heads.specs.Put.{Put}
use Rattle.heads.specs.Laws.{put_after, putting_starts, putting_goes_on, putting_ends}
use Rattle.text.specs.declared.Opening.{Opening}
use Rattle.text.specs.declared.Event.{Event}
use Rattle.text.specs.declared.Event.TheVariants.{Enqueue, Dequeue, Steps}
use Rattle.text.specs.Text.{text_of, opening_text, event_text, events_text, longest}
use Rattle.text.specs.Answer.{Answer, gives, refuses, onto}
use Rattle.text.specs.Laws.{onto_is, onto_onto, given_is}
use Rattle.writing.specs.Writing.{is_kind, event_in, no_text, found, events_in, opening_in, schedule_in, fitting, text_in, into_room, writing}
use Rattle.writing.specs.Parts.{lengths_in, lines_in, whole_text, measuring}

pub kind_room : (words : List ℕ) (at kind n : ℕ) → is_kind words at kind n ≡ true → at + n ≤ length words
unfolding is_kind
kind_room words at kind n h = leb-true (at + n) (length words) ((and-eq-true_iff (leb (at + n) (length words)) (eqb (get_or words at 0) kind)).0 h).0

-- an event's words, by their kind
pub data Told (words : List ℕ) (at : ℕ) (e : Event) (next : ℕ) : Type 0 where
  enqueued : at + 4 ≤ length words → at + 4 ≡ next
      → Enqueue (level (get_or words (at + 1) 0)) (queue (get_or words (at + 2) 0)) (node (get_or words (at + 3) 0)) ≡ e
      → Told words at e next
  dequeued : at + 3 ≤ length words → at + 3 ≡ next
      → Dequeue (level (get_or words (at + 1) 0)) (queue (get_or words (at + 2) 0)) ≡ e → Told words at e next
  stepped : at + 2 ≤ length words → at + 2 ≡ next → 1 ≤ get_or words (at + 1) 0 → Steps (get_or words (at + 1) 0) ≡ e → Told words at e next

pub event_told : (words : List ℕ) (at next : ℕ) (e : Event) → event_in words at ≡ Some (e, next) → Told words at e next
unfolding event_in
event_told words at next e h =
    by (is_kind words at 1 4) (is_kind words at 2 3) (is_kind words at 3 2) (leb 1 (get_or words (at + 1) 0))
    (kind_room words at 1 4) (kind_room words at 2 3) (kind_room words at 3 2) (leb-true 1 (get_or words (at + 1) 0)) h
  where
    by : (x y z t : Bool) → (x ≡ true → at + 4 ≤ length words) → (y ≡ true → at + 3 ≤ length words) → (z ≡ true → at + 2 ≤ length words)
        → (t ≡ true → 1 ≤ get_or words (at + 1) 0)
        → cond {A = Option (Event × ℕ)} x
        (Some (Enqueue (level (get_or words (at + 1) 0)) (queue (get_or words (at + 2) 0)) (node (get_or words (at + 3) 0)), at + 4))
        (cond {A = Option (Event × ℕ)} y (Some (Dequeue (level (get_or words (at + 1) 0)) (queue (get_or words (at + 2) 0)), at + 3))
        (cond {A = Option (Event × ℕ)} (z && t) (Some (Steps (get_or words (at + 1) 0), at + 2)) None))
        ≡ Some (e, next)
        → Told words at e next
    by true y z t f g h i k = let (d, p) = some_pair_parts _ e (at + 4) next k in enqueued (f refl) p d
    by false true z t f g h i k = let (d, p) = some_pair_parts _ e (at + 3) next k in dequeued (g refl) p d
    by false false true true f g h i k = let (d, p) = some_pair_parts _ e (at + 2) next k in stepped (h refl) p (i refl) d
    by false false true false f g h i k = cc
    by false false false t f g h i k = cc

-- the words of an event are among the words
pub event_on : (words : List ℕ) (at next : ℕ) (e : Event) → event_in words at ≡ Some (e, next) → next ≤ length words
event_on words at next e h = by (event_told words at next e h)
  where
    by : Told words at e next → next ≤ length words
    by (enqueued r n k) = omega arith
    by (dequeued r n k) = omega arith
    by (stepped r n c k) = omega arith

pub lengths_more : (n k line : ℕ) (words : List ℕ) (at next : ℕ) (e : Event) → 0 < k → event_in words at ≡ Some (e, next)
    → lengths_in n k line words at ≡ lengths_in (n + length (event_text e)) (k - 1) (line + 1) words next
unfolding lengths_in events_in found events_text
lengths_more n zero line words at next e h f = absurd (omega arith)
lengths_more n (suc k) line words at next e h f =
    simp (f, sub-one, add-one, onto_onto, length-append, add_assoc)

pub lengths_stop : (n k line : ℕ) (words : List ℕ) (at : ℕ) → 0 < k → event_in words at ≡ None
    → lengths_in n k line words at ≡ refuses 13 (line ∷ [])
unfolding lengths_in events_in found no_text
lengths_stop n zero line words at h f = absurd (omega arith)
lengths_stop n (suc k) line words at h f = simp f

pub lengths_none : (n k line : ℕ) (words : List ℕ) (at : ℕ) → k ≤ 0 → lengths_in n k line words at ≡ gives n
unfolding lengths_in events_in events_text
lengths_none n zero line words at h = rw add-zero
lengths_none n (suc k) line words at h = absurd (omega arith)

pub lines_more : (k : ℕ) (words : List ℕ) (at next : ℕ) (e : Event) → 0 < k → event_in words at ≡ Some (e, next)
    → lines_in k words at ≡ event_text e ++ lines_in (k - 1) words next
unfolding lines_in
lines_more zero words at next e h f = absurd (omega arith)
lines_more (suc k) words at next e h f = simp (f, sub-one)

pub lines_stop : (k : ℕ) (words : List ℕ) (at : ℕ) → event_in words at ≡ None → lines_in k words at ≡ []
unfolding lines_in
lines_stop zero words at f = refl
lines_stop (suc k) words at f = simp f

pub lines_none : (k : ℕ) (words : List ℕ) (at : ℕ) → k ≤ 0 → lines_in k words at ≡ []
unfolding lines_in
lines_none zero words at h = refl
lines_none (suc k) words at h = absurd (omega arith)

pub found_is : (line : ℕ) (r : Option (Event × ℕ)) (e : Event) (next : ℕ) → found line r ≡ gives (e, next) → r ≡ Some (e, next)
unfolding found no_text
found_is line (Some (d, p)) e next h = let x = given_is d e p next h in rw (x.0, x.1)
found_is line None e next h = cc

-- the lines are those of the events
told_lines : (k line : ℕ) (words : List ℕ) (at : ℕ) (es : List Event) → events_in k line words at ≡ gives es
    → lines_in k words at ≡ events_text es
unfolding events_in lines_in events_text
told_lines zero line words at es h = let e : [] ≡ es = cc in rw (← e)
told_lines (suc k) line words at es h =
    let a = onto_is (found line (event_in words at)) _ es h in
    let b = onto_is (events_in k (suc line) words a.0.1) _ es a.2 in
    let e : a.0.0 ∷ b.0 ≡ es = cc in
    simp (found_is line (event_in words at) a.0.0 a.0.1 a.1, told_lines k (suc line) words a.0.1 b.0 b.1)
    (ap events_text e)

pub lines_room : (k : ℕ) (words : List ℕ) (at next : ℕ) (e : Event) → 0 < k → event_in words at ≡ Some (e, next)
    → length (event_text e) ≤ length (lines_in k words at)
lines_room k words at next e h f =
    omega (arith, simp length-append at (ap length (lines_more k words at next e h f)))

-- a text's length is measured from its opening on, and tested at the end
abbrev pub tested : ℕ → Answer ℕ
tested n = cond (leb n longest) (gives n) (no_text 0)

fitting_length : (text : List ℕ) → onto (fitting text) (λ t. gives (length t)) ≡ tested (length text)
unfolding fitting no_text
fitting_length text = by (leb (length text) longest)
  where
    by : (b : Bool) → onto (cond b (gives text) (no_text 0)) (λ t. gives (length t)) ≡ cond b (gives (length text)) (no_text 0)
    by true = refl
    by false = refl

told_length : (o : Opening) (r : Answer (List Event))
    → onto (onto (onto {B = Opening × List Event} r (λ es. gives (o, es))) (λ s. fitting (text_of s.0 s.1))) (λ t. gives (length t))
    ≡ onto (onto r (λ es. gives (length (opening_text o) + length (events_text es)))) tested
unfolding text_of
told_length o (gives es) = fitting_length (text_of o es) ∙ rw length-append
told_length o (refuses n vs) = refl

pub measuring_is : (words : List ℕ) (m : Answer ℕ) (o : Opening) (start : ℕ) → 4 ≤ length words → o ≡ opening_in words
    → start ≡ length (opening_text o) → m ≡ lengths_in start o.events 6 words 4 → measuring words ≡ onto m tested
unfolding measuring text_in schedule_in lengths_in
measuring_is words m o start h e f g =
    rw (le-leb 4 (length words) h, g, f, e) (told_length (opening_in words) (events_in (opening_in words).events 6 words 4))

pub measuring_short : (words : List ℕ) → length words < 4 → measuring words ≡ refuses 13 ((length words + 2) ∷ [])
unfolding measuring text_in schedule_in no_text
measuring_short words h = rw (lt-leb 4 (length words) h)

-- what words that stand for a schedule say
pub record Saying (words : List ℕ) (o : Opening) (es : List Event) : Type 0 where
  pub enough : 4 ≤ length words
  pub opening : opening_in words ≡ o
  pub events : events_in (opening_in words).events 6 words 4 ≡ gives es

pub saying : (words : List ℕ) (o : Opening) (es : List Event) → schedule_in words ≡ gives (o, es) → Saying words o es
unfolding schedule_in no_text
saying words o es h = by (leb 4 (length words)) refl h
  where
    by : (b : Bool) → leb 4 (length words) ≡ b
        → cond b (onto {B = Opening × List Event} (events_in (opening_in words).events 6 words 4) (λ es. gives (opening_in words, es)))
        (no_text (length words + 2))
        ≡ gives (o, es)
        → Saying words o es
    by true f k =
        let a = onto_is (events_in (opening_in words).events 6 words 4) _ (o, es) k in
        let x = given_is (opening_in words) o a.0 es a.2 in
        record { enough = leb-true 4 (length words) f; opening = x.0; events = a.1 ∙ ap (λ (l : List Event). gives l) x.1 }
    by false f k = cc

pub record Fitting (s t : List ℕ) : Type 0 where
  pub is : s ≡ t
  pub short : length s ≤ longest

pub fitting_is : (s t : List ℕ) → fitting s ≡ gives t → Fitting s t
unfolding fitting no_text
fitting_is s t h = by (leb (length s) longest) refl h
  where
    by : (b : Bool) → leb (length s) longest ≡ b → cond b (gives s) (no_text 0) ≡ gives t → Fitting s t
    by true f h = record { is = cc; short = leb-true (length s) longest f }
    by false f h = cc

-- what a length that was measured says
pub record Ready (words : List ℕ) (n : ℕ) : Type 0 where
  pub enough : 4 ≤ length words
  pub text : text_in words ≡ gives (whole_text words)
  pub long : length (whole_text words) ≡ n

pub ready : (words : List ℕ) (n : ℕ) → measuring words ≡ gives n → Ready words n
unfolding measuring text_in whole_text text_of
ready words n h =
    let a = onto_is (text_in words) _ n h in
    let b = onto_is (schedule_in words) _ a.0 a.1 in
    let s = saying words b.0.0 b.0.1 b.1 in
    let same : whole_text words ≡ a.0 =
    rw (told_lines (opening_in words).events 6 words 4 b.0.1 s.events)
    (ap (λ (p : Opening). opening_text p ++ events_text b.0.1) s.opening ∙ (fitting_is (text_of b.0.0 b.0.1) a.0 b.2).is)
    in
    let long : length a.0 ≡ n = cc in
    record { enough = s.enough; text = a.1 ∙ rw same refl; long = rw same long }

pub whole_is : (words : List ℕ) (o : Opening) → o ≡ opening_in words → opening_text o ++ lines_in o.events words 4 ≡ whole_text words
unfolding whole_text
whole_is words o e = rw e refl

pub whole_length : (words : List ℕ) (o : Opening) → o ≡ opening_in words
    → length (opening_text o) + length (lines_in o.events words 4) ≡ length (whole_text words)
whole_length words o e = sym (length-append (opening_text o) (lines_in o.events words 4)) ∙ ap length (whole_is words o e)

-- the three ends of a writing
pub written : (words room after : List ℕ) (n r : ℕ) → Ready words n → n ≤ length room
    → Put r after room 0 (whole_text words) → writing words room ≡ (gives r, after)
unfolding writing into_room
written words room after n r d h p =
    let e : r ≡ length (whole_text words) = omega (arith, p.next) in
    let l : length (whole_text words) ≤ length room = omega (arith, d.long) in
    let is : after ≡ whole_text words ++ drop (length (whole_text words)) room =
    p.is ∙ sets-eq (whole_text words) room 0 (omega arith) ∙ rw zero-add
    in
    rw (d.text, le-leb (length (whole_text words)) (length room) l, e, is) refl

pub not_written : (words room : List ℕ) (n : ℕ) → Ready words n → length room < n → writing words room ≡ (refuses 12 [], room)
unfolding writing into_room
not_written words room n d h = rw (d.text, d.long, lt-leb n (length room) h) refl

pub has_none : (words room : List ℕ) (number : ℕ) (values : List ℕ) → measuring words ≡ refuses number values
    → writing words room ≡ (refuses number values, room)
unfolding writing into_room measuring
has_none words room number values h = by (text_in words) h
  where
    by : (t : Answer (List ℕ)) → onto t (λ s. gives (length s)) ≡ refuses number values → into_room room t ≡ (refuses number values, room)
    by (gives s) k = cc
    by (refuses n vs) k =
        let a : n ≡ number = cc in
        let b : vs ≡ values = cc in
        rw (a, b)

-- what the functions' proofs go by
pub ruleset kinds = (nat_tests, get_or-drop, length-drop)

pub ruleset lengths = (event_on, lengths_more, lengths_stop, lengths_none)

pub ruleset measures = (measuring_is, measuring_short, nat_tests)

pub ruleset puts = (event_on, lines_more, lines_stop, lines_none, lines_room, putting_starts, putting_goes_on, putting_ends)

pub ruleset wholes = (whole_is, whole_length, put_after)

pub ruleset ends = (ready, written, not_written, has_none)
