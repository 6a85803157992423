-- What the proofs of the performing cite.
use Prim.Native.Nat.{ℕ, zero, suc, ◌+◌, ◌-◌, ◌≤◌, ◌<◌}
use Rattle.std.proofs.Math.Path.{◌≡◌, ap}
use Rattle.std.specs.Prelude.{refl}
use Rattle.std.proofs.Common.{◌∙◌, arith, add-one}
use mathlib.Core.List.{List, [], ◌∷◌}
use Rattle.std.proofs.Math.Numerals.{sub-one}
use Rattle.answers.specs.declared.End.{End}
use Rattle.answers.specs.Said.{Said, refused, says, Run, after, an_end}
use Rattle.text.specs.declared.Event.{Event}
use Rattle.text.specs.Answer.{gives, refuses}
use Rattle.text.specs.Reading.{event_reading}
use Rattle.text.specs.Laws.{onto_is, given_is}
use Rattle.steps.specs.Run.{run_of}
use Rattle.schedule.specs.Whole.{events_by, events_reading}
use Rattle.loglines.specs.Lines.{refusal_line}
use Rattle.loglines.specs.Ink.{Page, ink}
use Rattle.loglines.specs.Laws.{ink_append, ink_then}
use Rattle.play.specs.Play.{Played, before, steps_of, event_of, follow, events_of}
use Rattle.play.specs.Parts.{into, read_then, at_place}
use Rattle.play.specs.Steps.{ran_played, steps_run}

into_before : {A : Type 0} (x y : Page) (line : List ℕ) (p : List ℕ × A) → ink x line ≡ y → into x (before line p) ≡ into y p
into_before x y line p e = ap (λ (w : Page). (w, p.1)) (ink_append x line p.0 ∙ rw e)

into_none : {A : Type 0} (x : Page) (a : A) → into x ([], a) ≡ (x, a)
unfolding ink
into_none x a = refl

-- an event without lines
pub into_quiet : {A : Type 0} (x : Page) (a b : A) → a ≡ b → into x ([], a) ≡ (x, b)
into_quiet x a b e = into_none x a ∙ rw e

module _ (line : End → List ℕ) (x : Page) (left : ℕ) (t : List ℕ) where
  -- a run that ended an operation, and one that stopped otherwise
  pub run_ended : (y : Page) (n : ℕ) (u : List ℕ) (e : End) → 0 < left → run_of left t ≡ (says (after n (an_end e)), u)
      → ink x (line e) ≡ y → into x (steps_of line left t) ≡ into y (steps_of line (left - n) u)
  unfolding ran_played
  run_ended y n u e h r i =
      ap (into x) (steps_run line left t h ∙ ap (ran_played line left) r) ∙ into_before x y (line e) (steps_of line (left - n) u) i

  pub run_stopped : (u : List ℕ) (a : Said Run) (d : Said Unit) → 0 < left → run_of left t ≡ (a, u)
      → ran_played line left (a, u) ≡ ([], (d, u)) → into x (steps_of line left t) ≡ (x, (d, u))
  run_stopped u a d h r e =
      ap (into x) (steps_run line left t h ∙ ap (ran_played line left) r ∙ e) ∙ into_none x (d, u)

pub steps_none : (line : End → List ℕ) (x : Page) (left : ℕ) (t : List ℕ) → left ≤ 0
    → into x (steps_of line left t) ≡ (x, (says tt, t))
unfolding steps_of
steps_none line x zero t h = into_none x (says tt, t)
steps_none line x (suc n) t h = absurd (omega arith)

-- ---- an event, and those that follow it

module _ (x y : Page) (i : ℕ) (others : List ℕ → List ℕ × List ℕ) where
  follow_on : (p : Played) (u : List ℕ) → into x p ≡ (y, (says tt, u)) → into x (follow i others p) ≡ into y (others u)
  unfolding follow
  follow_on (line, (says a, t)) u e =
      let f : ink x line ≡ y = ap (λ q. q.0) e in
      let g : t ≡ u = ap (λ q. q.1.1) e in
      rw g (into_before x y line (others u) f)
  follow_on (line, (refused r, t)) u e =
      let f : ◌≡◌ {A = Said Unit} (refused r) (says tt) = ap (λ q. q.1.0) e in let z : ◌≡◌ {A = ℕ} 0 1 = cc in absurd (omega arith)

  follow_stop : (z : Page) (p : Played) (r : ℕ) (u : List ℕ) → into x p ≡ (y, (refused r, u)) → ink y (refusal_line i r) ≡ z
      → into x (follow i others p) ≡ (z, u)
  unfolding follow
  follow_stop z (line, (says a, t)) r u e k =
      let f : ◌≡◌ {A = Said Unit} (says a) (refused r) = ap (λ w. w.1.0) e in let o : ◌≡◌ {A = ℕ} 0 1 = cc in absurd (omega arith)
  follow_stop z (line, (refused q, t)) r u e k =
      let f : ink x line ≡ y = ap (λ w. w.0) e in
      let g : t ≡ u = ap (λ w. w.1.1) e in
      let d : ◌≡◌ {A = Said Unit} (refused q) (refused r) = ap (λ w. w.1.0) e in
      let h : q ≡ r = cc in
      rw (g, h) (ap (λ (w : Page). (w, u)) (ink_then x line (refusal_line i r) f k))

module _ (line : End → List ℕ) where
  place_more : (k i : ℕ) (text : List ℕ) (at next : ℕ) (t : List ℕ) (e : Event) → 0 < k → event_reading text at ≡ gives (e, next)
      → at_place line k i text at t ≡ follow i (at_place line (k - 1) (i + 1) text next) (event_of line e t)
  unfolding at_place
  place_more zero i text at next t e h r = absurd (omega arith)
  place_more (suc k) i text at next t e h r = rw (r, sub-one, add-one)

  -- event i + 1 of so many was read and performed: it was not refused, or it was
  module _ (x y : Page) (count i : ℕ) (text : List ℕ) (at next : ℕ) (t u : List ℕ) (e : Event) (more : i < count)
      (reads : event_reading text at ≡ gives (e, next)) where
    pub event_played : into x (event_of line e t) ≡ (y, (says tt, u))
        → into x (at_place line (count - i) (i + 1) text at t) ≡ into y (at_place line (count - (i + 1)) (i + 1 + 1) text next u)
    event_played p =
        let k : count - i - 1 ≡ count - (i + 1) = omega arith in
        ap (into x) (place_more (count - i) (i + 1) text at next t e (omega arith) reads)
        ∙ rw k (follow_on x y (i + 1) _ (event_of line e t) u p)

    pub event_refused : (z : Page) (r : ℕ) → into x (event_of line e t) ≡ (y, (refused r, u))
        → ink y (refusal_line (i + 1) r) ≡ z → into x (at_place line (count - i) (i + 1) text at t) ≡ (z, u)
    event_refused z r p w =
        ap (into x) (place_more (count - i) (i + 1) text at next t e (omega arith) reads)
        ∙ follow_stop x y (i + 1) _ z (event_of line e t) r u p w

  pub place_wrong : (x : Page) (k i : ℕ) (text : List ℕ) (at : ℕ) (t : List ℕ) (n : ℕ) (vs : List ℕ)
      → event_reading text at ≡ refuses n vs → into x (at_place line k i text at t) ≡ (x, t)
  unfolding at_place
  place_wrong x zero i text at t n vs r = into_none x t
  place_wrong x (suc k) i text at t n vs r = rw r (into_none x t)

  pub place_start : (x : Page) (count : ℕ) (text : List ℕ) (at : ℕ) (t : List ℕ)
      → into x (at_place line count 1 text at t) ≡ into x (at_place line (count - 0) (0 + 1) text at t)
  place_start x count text at t =
      let e : count ≡ count - 0 = omega arith in ap (λ (k : ℕ). into x (at_place line k 1 text at t)) e

  pub place_none : (x : Page) (k i : ℕ) (text : List ℕ) (at : ℕ) (t : List ℕ) → k ≤ 0
      → into x (at_place line k i text at t) ≡ (x, t)
  unfolding at_place
  place_none x zero i text at t h = into_none x t
  place_none x (suc k) i text at t h = absurd (omega arith)

-- ---- the events of a text that is right are those that are performed

follow_same : (i : ℕ) (f g : List ℕ → List ℕ × List ℕ) (p : Played) → ((t : List ℕ) → f t ≡ g t) → follow i f p ≡ follow i g p
unfolding follow
follow_same i f g (lines, (says a, t)) h = ap (before lines) (h t)
follow_same i f g (lines, (refused r, t)) h = refl

pub place_events : (line : End → List ℕ) (k i : ℕ) (text : List ℕ) (place next : ℕ) (es : List Event) (t : List ℕ)
    → events_reading k text place ≡ gives (es, next) → at_place line k i text place t ≡ events_of line i es t
unfolding events_by at_place events_of
place_events line zero i text place next es t h =
    let x = given_is [] es place next h in ap (λ (l : List Event). events_of line i l t) x.0
place_events line (suc k) i text place next es t h =
    let a = onto_is (event_reading text place) _ (es, next) h in
    let b = onto_is (events_reading k text a.0.1) _ (es, next) a.2 in
    let x = given_is (a.0.0 ∷ b.0.0) es b.0.1 next b.2 in
    ap (read_then line i (at_place line k (suc i) text) t) a.1
    ∙ follow_same i _ _ (event_of line a.0.0 t) (λ u. place_events line k (suc i) text a.0.1 b.0.1 b.0.0 u b.1)
    ∙ ap (λ (l : List Event). events_of line i l t) x.0
