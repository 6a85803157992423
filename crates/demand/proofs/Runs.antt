-- A run of steps: what its steps keep, it keeps; and it never stops by refusal 10.
use Rattle.std.specs.Prelude.{Some}
use Prim.Native.Nat.{ℕ, zero, suc, ◌+◌}
use mathlib.Core.Path.{◌≡◌, refl}
use mathlib.Core.Logic.{◌≢◌}
use mathlib.Core.List.{List, []}
use Rattle.words.specs.declared.Sizes.{Sizes}
use Rattle.words.specs.Layout.{measured}
use Rattle.answers.specs.Said.{Said, says, going_on, ended, Run, after, an_end, spent, nothing_runs, refusal_10}
use Rattle.steps.specs.Step.{step_sized}
use Rattle.steps.specs.Run.{ran_on, run_from}
use Rattle.demand.proofs.World.{World}
use Rattle.state.specs.View.{state_of}
use Rattle.demand.proofs.Keeps.{Keeps, keeps_same, keeps_then}
use Rattle.demand.proofs.Steps.{Outcome, idle, took, step_taken}
use Rattle.demand.specs.History.{returned_by_run}

module _ (s : Sizes) where
  -- a run that says x and leaves u
  pub record RunKept (t : List ℕ) (fronts : ℕ → List ℕ) (out : Said Run × List ℕ) : Type 0 where
    pub said : Run
    pub table : List ℕ
    pub is : out ≡ (says said, table)
    pub keeps : Keeps s t fronts (λ q. returned_by_run q said) (λ q. []) table
    pub unharmed : (n : ℕ) → said ≢ after n refusal_10

  pub run_kept : (budget n : ℕ) (t : List ℕ) (fronts : ℕ → List ℕ) → measured t ≡ Some s → World s (state_of s t) fronts
      → RunKept t fronts (run_from s budget n t)
  unfolding run_from ran_on
  run_kept zero n t fronts m w =
      record { said = after n spent; table = t; is = refl; keeps = keeps_same s t fronts m w; unharmed = λ k e. (cc) }
  run_kept (suc budget) n t fronts m w = by (step_taken s t fronts m w) (run_kept budget (n + 1))
    where
      Rest : Type 0
      Rest = (t : List ℕ) (fronts : ℕ → List ℕ) → measured t ≡ Some s → World s (state_of s t) fronts → RunKept t fronts (run_from s budget (n + 1) t)

      by : Outcome s t fronts → Rest → RunKept t fronts (ran_on n (run_from s budget) (step_sized s t).0 (step_sized s t).1)
      by (idle e h) on =
          record {
            said = after n nothing_runs;
            table = t;
            is = rw e;
            keeps = keeps_same s t fronts m w;
            unharmed = λ k z. (cc);
          }
      by (took l going_on a) on =
          let k = a.keeps in
          let r = on a.table k.fronts' k.sized k.world in
          record {
            said = r.said;
            table = r.table;
            is = rw a.is r.is;
            keeps = keeps_then s t a.table r.table fronts (λ q. []) (λ q. []) (λ q. returned_by_run q r.said) (λ q. []) k r.keeps;
            unharmed = r.unharmed;
          }
      by (took l (ended x) a) on =
          record {
            said = after (n + 1) (an_end x);
            table = a.table;
            is = rw a.is;
            keeps = a.keeps;
            unharmed = λ k z. (cc);
          }
