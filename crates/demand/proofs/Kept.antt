-- Histories: every accepted call keeps all queues, and so does any number of them.
use Rattle.std.specs.Prelude.{Some}
use Prim.Native.Nat.{ℕ}
use mathlib.Core.Path.{◌≡◌, sym, ◌∙◌, subst}
use mathlib.Core.Logic.{◌≢◌}
use mathlib.Core.List.{List, []}
use native.Mathlib.Omega.{arith}
use Rattle.words.specs.declared.Sizes.{Sizes}
use Rattle.words.specs.Layout.{measured}
use Rattle.answers.specs.Said.{refused, says, after, refusal_10}
use Rattle.steps.specs.Step.{step_measured, step_of, step_sized}
use Rattle.steps.specs.Run.{run_from, run_measured, run_of}
use Rattle.demand.proofs.World.{World}
use Rattle.state.specs.View.{state_of}
use Rattle.demand.proofs.Bridge.{same_said, no_answer, other_number}
use Rattle.demand.proofs.Keeps.{Keeps, keeps_same, keeps_then}
use Rattle.demand.proofs.Steps.{Outcome, idle, took, step_taken}
use Rattle.demand.proofs.Runs.{run_kept}
use Rattle.demand.proofs.Begins.{enqueue_kept, dequeue_kept}
use Rattle.demand.specs.History.{Event, Accepted, enqueue, dequeue, step, run, ask, History, none, call, handed_by, returned_by_step, returned_by, all}

pub step_of_holds : (s : Sizes) (t : List ℕ) → measured t ≡ Some s → step_of t ≡ step_sized s t
unfolding step_of step_measured
step_of_holds s t m = rw m

pub run_of_holds : (s : Sizes) (budget : ℕ) (t : List ℕ) → measured t ≡ Some s → run_of budget t ≡ run_from s budget 0 t
unfolding run_of run_measured
run_of_holds s budget t m = rw m

module _ (s : Sizes) where
  pub accepted_kept : (t u : List ℕ) (e : Event) (fronts : ℕ → List ℕ) → measured t ≡ Some s → World s (state_of s t) fronts → Accepted t u e
      → Keeps s t fronts (λ q. returned_by q e) (λ q. handed_by q e) u
  accepted_kept t u e fronts m w (enqueue {l = l} {q = q} {n = n} h) = enqueue_kept s t fronts m w l q n u h
  accepted_kept t u e fronts m w (dequeue {l = l} {q = q} h) = dequeue_kept s t fronts m w l q u h
  accepted_kept t u e fronts m w (step {x = x} h) = by (step_taken s t fronts m w)
    where
      by : Outcome s t fronts → Keeps s t fronts (λ q. returned_by_step q x) (λ q. []) u
      by (idle k i) = absurd (no_answer (sym k ∙ sym (step_of_holds s t m) ∙ h))
      by (took l y a) = let z = same_said (sym a.is ∙ sym (step_of_holds s t m) ∙ h) in rw (z.0, z.1) at a.keeps
  accepted_kept t u e fronts m w (run {budget = budget} {x = x} h) =
      let r = run_kept s budget 0 t fronts m w in
      let z = same_said (sym r.is ∙ sym (run_of_holds s budget t m) ∙ h) in
      rw (z.0, z.1) at r.keeps
  accepted_kept t u e fronts m w (ask h) = subst (λ (v : List ℕ). Keeps s t fronts (λ q. []) (λ q. []) v) h (keeps_same s t fronts m w)

  -- the invariant of every queue, kept by every history
  pub history_kept : (t u : List ℕ) (es : List Event) (fronts : ℕ → List ℕ) → measured t ≡ Some s → World s (state_of s t) fronts → History t es u
      → Keeps s t fronts (λ q. all (returned_by q) es) (λ q. all (handed_by q) es) u
  history_kept t u es fronts m w (none h) = subst (λ (v : List ℕ). Keeps s t fronts (λ q. []) (λ q. []) v) h (keeps_same s t fronts m w)
  history_kept t v es fronts m w (call {u = u} {e = e} {es = fs} a h) =
      let k = accepted_kept t u e fronts m w a in
      keeps_then s t u v fronts (λ q. returned_by q e) (λ q. handed_by q e) (λ q. all (returned_by q) fs) (λ q. all (handed_by q) fs) k
      (history_kept u v fs k.fronts' k.sized k.world h)

  -- refusal 10 never comes
  module _ (t : List ℕ) (fronts : ℕ → List ℕ) (m : measured t ≡ Some s) (w : World s (state_of s t) fronts) where
    pub step_unharmed : (step_of t).0 ≢ refused 10
    step_unharmed = rw (step_of_holds s t m) (by (step_taken s t fronts m w))
      where
        by : Outcome s t fronts → (step_sized s t).0 ≢ refused 10
        by (idle e h) = rw e (λ z. other_number z (omega arith))
        by (took l x a) = rw a.is (λ z. (cc))

    pub run_unharmed : (budget n : ℕ) → (run_of budget t).0 ≢ says (after n refusal_10)
    run_unharmed budget n =
        let r = run_kept s budget 0 t fronts m w in
        rw (run_of_holds s budget t m, r.is) (λ z. r.unharmed n cc)
