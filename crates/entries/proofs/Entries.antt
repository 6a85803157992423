-- What the proofs of measuring and writing a schedule's text cite: the events by the place of an operation.
use Rattle.std.specs.Prelude.{ℕ, zero, suc, ◌+◌, ◌*◌, ◌-◌, ◌≤◌, ◌<◌, ◌≡◌, refl, Bool, true, false, cond, List, [], ◌∷◌, ◌++◌, eqb, length, get_or, drop}
use Rattle.std.proofs.Common.{sym, ap, ◌∙◌, append_assoc, append-nil, arith, add-one, length-append, ne_eqb}
use Rattle.words.specs.declared.Sizes.{Sizes}
use Rattle.text.specs.declared.Opening.{Opening}
use Rattle.text.specs.declared.Event.{Event}
use Rattle.text.specs.declared.Event.TheVariants.{Steps}
use Rattle.text.specs.Text.{event_text, events_text, opening_text, text_of}
use Rattle.lines.specs.Laws.{steps_top, event_top, opening_top}
use Rattle.ways.specs.declared.Op.{Op}
use Rattle.ways.specs.Schedules.{op_in, ops_in}
use Rattle.entries.specs.Texts.{op_event, step_events, first, others, events_of, opening, events_text_of}

pub no_steps : (c : ℕ) → c ≡ 0 → step_events c ≡ []
unfolding step_events
no_steps c h = rw h refl

pub some_steps : (c : ℕ) → (c ≡ 0 → ⊥) → step_events c ≡ Steps c ∷ []
unfolding step_events
some_steps c h = rw (ne_eqb c 0 h) refl

one_text : (e : Event) → events_text (e ∷ []) ≡ event_text e
unfolding events_text
one_text e = append-nil (event_text e)

pub no_steps_text : (c : ℕ) → c ≡ 0 → events_text (step_events c) ≡ []
unfolding events_text
no_steps_text c h = ap events_text (no_steps c h)

pub steps_text : (c : ℕ) → (c ≡ 0 → ⊥) → events_text (step_events c) ≡ event_text (Steps c)
steps_text c h = ap events_text (some_steps c h) ∙ one_text (Steps c)

text_append : (xs ys : List Event) → events_text (xs ++ ys) ≡ events_text xs ++ events_text ys
unfolding events_text
text_append [] ys = refl
text_append (x ∷ xs) ys = ap (λ (t : List ℕ). event_text x ++ t) (text_append xs ys)
    ∙ sym (append_assoc (event_text x) (events_text xs) (events_text ys))

-- ---- the events from operation j on, with so many operations to begin

abbrev pub events_at : List ℕ → List ℕ → ℕ → ℕ → List Event
events_at ws cs j r = events_of (drop j cs) (ops_in r ws j)

first_drop : (cs : List ℕ) (j : ℕ) → first (drop j cs) ≡ get_or cs j 0
unfolding first
first_drop [] zero = refl
first_drop [] (suc j) = refl
first_drop (c ∷ cs) zero = refl
first_drop (c ∷ cs) (suc j) = first_drop cs j

others_drop : (cs : List ℕ) (j : ℕ) → others (drop j cs) ≡ drop (suc j) cs
unfolding others
others_drop [] zero = refl
others_drop [] (suc j) = refl
others_drop (c ∷ cs) zero = refl
others_drop (c ∷ cs) (suc j) = others_drop cs j

at_suc : (ws cs : List ℕ) (j r : ℕ)
    → events_at ws cs j (suc r) ≡ step_events (get_or cs j 0) ++ (op_event (op_in ws j) ∷ events_at ws cs (j + 1) r)
unfolding events_of ops_in
at_suc ws cs j r =
    let next : others (drop j cs) ≡ drop (j + 1) cs = others_drop cs j ∙ ap (λ (i : ℕ). drop i cs) (sym (add-one j)) in
    rw (first_drop cs j, next) refl

at_zero : (ws cs : List ℕ) (j : ℕ) → events_at ws cs j 0 ≡ step_events (get_or cs j 0)
unfolding events_of ops_in
at_zero ws cs j = ap step_events (first_drop cs j)

more_left : (j k : ℕ) → j < k → k - j ≡ suc (k - (j + 1))
more_left j k h = omega arith

at_next : (ws cs : List ℕ) (j k : ℕ) → j < k
    → events_at ws cs j (k - j) ≡ step_events (get_or cs j 0) ++ (op_event (op_in ws j) ∷ events_at ws cs (j + 1) (k - (j + 1)))
at_next ws cs j k h = ap (events_at ws cs j) (more_left j k h) ∙ at_suc ws cs j (k - (j + 1))

text_suc : (ws cs : List ℕ) (j r : ℕ)
    → events_text (events_at ws cs j (suc r))
    ≡ events_text (step_events (get_or cs j 0)) ++ (event_text (op_event (op_in ws j)) ++ events_text (events_at ws cs (j + 1) r))
unfolding events_text
text_suc ws cs j r =
    ap events_text (at_suc ws cs j r) ∙ text_append (step_events (get_or cs j 0)) (op_event (op_in ws j) ∷ events_at ws cs (j + 1) r)

-- one operation more
pub at_more : (ws cs : List ℕ) (j k : ℕ) → j < k
    → events_text (events_at ws cs j (k - j))
    ≡ events_text (step_events (get_or cs j 0)) ++ (event_text (op_event (op_in ws j)) ++ events_text (events_at ws cs (j + 1) (k - (j + 1))))
at_more ws cs j k h = ap (λ (r : ℕ). events_text (events_at ws cs j r)) (more_left j k h) ∙ text_suc ws cs j (k - (j + 1))

pub count_at_more : (ws cs : List ℕ) (j k : ℕ) → j < k
    → length (events_at ws cs j (k - j)) ≡ length (step_events (get_or cs j 0)) + (1 + length (events_at ws cs (j + 1) (k - (j + 1))))
count_at_more ws cs j k h =
    let more : List Event = op_event (op_in ws j) ∷ events_at ws cs (j + 1) (k - (j + 1)) in
    omega (arith, ap length (at_next ws cs j k h), length-append (step_events (get_or cs j 0)) more)

at_last : (ws cs : List ℕ) (j k : ℕ) → k ≤ j → events_at ws cs j (k - j) ≡ step_events (get_or cs j 0)
at_last ws cs j k h = let e : k - j ≡ 0 = omega arith in ap (events_at ws cs j) e ∙ at_zero ws cs j

bytes_suc : (ws cs : List ℕ) (j r : ℕ)
    → length (events_text (events_at ws cs j (suc r)))
    ≡ length (events_text (step_events (get_or cs j 0)))
    + (length (event_text (op_event (op_in ws j))) + length (events_text (events_at ws cs (j + 1) r)))
bytes_suc ws cs j r =
    let steps : List ℕ = events_text (step_events (get_or cs j 0)) in
    let begin : List ℕ = event_text (op_event (op_in ws j)) in
    let after : List ℕ = events_text (events_at ws cs (j + 1) r) in
    omega (arith, ap length (text_suc ws cs j r), length-append steps (begin ++ after), length-append begin after)

pub bytes_at_more : (ws cs : List ℕ) (j k : ℕ) → j < k
    → length (events_text (events_at ws cs j (k - j)))
    ≡ length (events_text (step_events (get_or cs j 0)))
    + (length (event_text (op_event (op_in ws j))) + length (events_text (events_at ws cs (j + 1) (k - (j + 1)))))
bytes_at_more ws cs j k h =
    ap (λ (r : ℕ). length (events_text (events_at ws cs j r))) (more_left j k h) ∙ bytes_suc ws cs j (k - (j + 1))

pub at_end : (ws cs : List ℕ) (j k : ℕ) → j ≤ k → k ≤ j → events_at ws cs j (k - j) ≡ step_events (get_or cs k 0)
at_end ws cs j k p h = let e : j ≡ k = omega arith in at_last ws cs j k h ∙ ap (λ (i : ℕ). step_events (get_or cs i 0)) e

pub text_at_end : (ws cs : List ℕ) (j k : ℕ) → j ≤ k → k ≤ j
    → events_text (events_at ws cs j (k - j)) ≡ events_text (step_events (get_or cs k 0)) ++ []
text_at_end ws cs j k p h = ap events_text (at_end ws cs j k p h) ∙ sym (append-nil (events_text (step_events (get_or cs k 0))))

pub event_text_holds : (ws : List ℕ) (j : ℕ) (o : Op) (e : Event) → e ≡ op_event o → o ≡ op_in ws j → event_text (op_event (op_in ws j)) ≡ event_text e
event_text_holds ws j o e h k = ap (λ (p : Op). event_text (op_event p)) (sym k) ∙ ap event_text (sym h)

pub event_bytes : (ws : List ℕ) (j : ℕ) (o : Op) (e : Event) → e ≡ op_event o → o ≡ op_in ws j
    → length (event_text (op_event (op_in ws j))) ≡ length (event_text e)
event_bytes ws j o e h k = ap length (event_text_holds ws j o e h k)

pub text_length : (o : Opening) (es : List Event) → length (text_of o es) ≡ length (opening_text o) + length (events_text es)
unfolding text_of
text_length o es = length-append (opening_text o) (events_text es)

-- ---- the most bytes: 8 of an S line, 28 with an operation's line after it, and 26 of the opening

pub s_line_top : (c : ℕ) → length (events_text (step_events c)) ≤ 8
unfolding step_events events_text
s_line_top c = by (eqb c 0)
  where
    by : (b : Bool) → length (events_text (cond b [] (Steps c ∷ []))) ≤ 8
    by true = omega arith
    by false = omega (arith, ap length (one_text (Steps c)), steps_top c)

pub events_top : (ws cs : List ℕ) (j r : ℕ) → length (events_text (events_at ws cs j r)) ≤ 28 * r + 8
events_top ws cs j zero =
    omega (arith, ap (λ (es : List Event). length (events_text es)) (at_zero ws cs j), s_line_top (get_or cs j 0))
events_top ws cs j (suc r) =
    omega (arith, bytes_suc ws cs j r, s_line_top (get_or cs j 0), event_top (op_event (op_in ws j)), events_top ws cs (j + 1) r)

-- so the text of a schedule of at most six operations has at most 202
pub text_top : (s : Sizes) (ws cs : List ℕ) (k : ℕ) → k ≤ 6 → length (events_text_of s (events_at ws cs 0 k)) ≤ 202
text_top s ws cs k h =
    let es : List Event = events_at ws cs 0 k in
    omega (arith, text_length (opening s es) es, opening_top (opening s es), events_top ws cs 0 k)
