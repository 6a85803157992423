-- The events of a schedule from fresh, played with two kinds of lines: the cost facts hold of every table on the way, so each end is
-- within its bounds.
use Prim.Native.Nat.{ℕ, zero, suc}
use mathlib.Core.Path.{◌≡◌, refl, ap, ◌∙◌, subst}
use mathlib.Core.List.{List, [], ◌∷◌}
use native.Mathlib.Omega.{arith}
use Rattle.words.specs.declared.Sizes.{Sizes}
use Rattle.answers.specs.declared.End.{End}
use Rattle.answers.specs.Said.{refused, says, going_on, ended}
use Rattle.text.specs.declared.Event.{Event}
use Rattle.text.specs.declared.Event.TheVariants.{Enqueue, Dequeue, Steps}
use Rattle.steps.specs.Step.{step_of, step_sized}
use Rattle.state.specs.View.{frames, state_of}
use Rattle.demand.specs.History.{enqueued, dequeued, enqueue, dequeue, none}
use Rattle.demand.proofs.Fresh.{freshly}
use Rattle.demand.proofs.Bridge.{same_said, no_answer}
use Rattle.demand.proofs.Steps.{Outcome, idle, took, step_taken}
use Rattle.demand.proofs.Kept.{step_of_holds}
use Rattle.play.specs.Play.{Played, before, go_on, steps_of, event_of, follow, events_of}
use Rattle.limits.specs.Course.{ends}
use Rattle.limits.specs.Limits.{Capped, InBounds}
use Rattle.limits.proofs.Few.{few_table}
use Rattle.limits.proofs.Calls.{Good, step_moved}
use Rattle.limits.proofs.Theorems.{fresh_good, limits_suffice, end_short, good_then}
use Rattle.loglimits.specs.Shown.{ShownWithin}

-- P is what is known of an end
module _ (s : Sizes) (cap : Capped s) (P : End → Type 0) (within : (e : End) → InBounds s.nodes e → P e) (line other : End → List ℕ)
    (alike : (e : End) → P e → line e ≡ other e) where
  -- the same is played, and what holds of the table still holds unless it is refused
  record Alike (p r : Played) : Type 0 where
    pub is : p ≡ r
    pub good : (u : List ℕ) → p.1 ≡ (says tt, u) → Good s s.nodes u

  -- the same lines in front
  alike_before : (x y : List ℕ) (p r : Played) → x ≡ y → Alike p r → Alike (before x p) (before y r)
  alike_before x y p r e h = record { is = ap (λ (l : List ℕ). before l p) e ∙ ap (before y) h.is; good = h.good }

  abbrev Rest : ℕ → Type 0
  Rest n = (t : List ℕ) → Good s s.nodes t → Alike (steps_of line n t) (steps_of other n t)

  alike_step : (n : ℕ) → Rest n → (t : List ℕ) → Good s s.nodes t
      → Alike (go_on line (steps_of line n) (step_of t)) (go_on other (steps_of other n) (step_of t))
  unfolding go_on
  alike_step n on t k = rw (step_of_holds s t k.sized) (by (step_taken s t k.fronts k.sized k.world))
    where
      by : Outcome s t k.fronts → Alike (go_on line (steps_of line n) (step_sized s t)) (go_on other (steps_of other n) (step_sized s t))
      by (idle e i) = rw e (record { is = refl; good = λ u z. absurd (no_answer z) })
      by (took l going_on a) =
          let m = step_moved s s.nodes cap t k (few_table s (state_of s t) k.fronts k.world) l going_on a in
          rw a.is (on a.table m.good)
      by (took l (ended e) a) =
          let m = step_moved s s.nodes cap t k (few_table s (state_of s t) k.fronts k.world) l (ended e) a in
          let short = end_short s s.nodes cap (frames s t) (frames s a.table) (ends 1 e) 1 e refl m.move in
          rw a.is
          (alike_before (line e) (other e) (steps_of line n a.table) (steps_of other n a.table)
          (alike e (within e short)) (on a.table m.good))

  alike_steps : (n : ℕ) → Rest n
  unfolding steps_of
  alike_steps zero t k = record { is = refl; good = λ u z. subst (Good s s.nodes) (same_said z).1 k }
  alike_steps (suc n) t k = alike_step n (alike_steps n) t k

  alike_event : (e : Event) (t : List ℕ) → Good s s.nodes t → Alike (event_of line e t) (event_of other e t)
  unfolding event_of
  alike_event (Enqueue l q n) t k =
      record { is = refl; good = λ u z. good_then s cap t u (enqueued l q n) k (enqueue z) }
  alike_event (Dequeue l q) t k = record { is = refl; good = λ u z. good_then s cap t u (dequeued l q) k (dequeue z) }
  alike_event (Steps count) t k = alike_steps count t k

  -- what follows an event, where it is not refused
  follow_alike : (i : ℕ) (f g : List ℕ → List ℕ × List ℕ) (p : Played) → ((u : List ℕ) → p.1 ≡ (says tt, u) → f u ≡ g u)
      → follow i f p ≡ follow i g p
  unfolding follow
  follow_alike i f g (lines, (says _, t)) h = ap (before lines) (h t refl)
  follow_alike i f g (lines, (refused r, t)) h = refl

  alike_events : (i : ℕ) (es : List Event) (t : List ℕ) → Good s s.nodes t → events_of line i es t ≡ events_of other i es t
  unfolding events_of
  alike_events i [] t k = refl
  alike_events i (e ∷ es) t k =
      let h = alike_event e t k in
      follow_alike i (events_of line (suc i) es) (events_of other (suc i) es) (event_of line e t)
      (λ u z. alike_events (suc i) es u (h.good u z))
      ∙ ap (follow i (events_of other (suc i) es)) h.is

module _ (s : Sizes) (lent t : List ℕ) (i : ℕ) (es : List Event) where
  pub shown_within : ShownWithin s lent t i es
  shown_within fresh line other alike =
      let cap = limits_suffice s [] t (lent, t, fresh, none refl) in
      alike_events s cap _ (λ e h. record { enqueue = λ o. omega (arith, h.enqueue o); operation = omega (arith, h.operation) })
      line other alike i es t
      (fresh_good s s.nodes t (freshly s lent t fresh))
