-- A run of steps with a budget.
use Rattle.std.specs.Prelude.{ℕ, zero, suc, ◌+◌, List, cond, eqb, Option, Some, None}
use Rattle.words.specs.declared.Sizes.{Sizes}
use Rattle.words.specs.Layout.{measured}
use Rattle.answers.specs.Said.{Said, refused, says, Step, going_on, ended, Run, after, an_end, spent, nothing_runs, refusal_10}
use Rattle.steps.specs.Step.{step_sized}

-- n steps were taken before one that says this and leaves the table t; where it goes on, so does the run
unfoldable pub ran_on : ℕ → (ℕ → List ℕ → Said Run × List ℕ) → Said Step → List ℕ → Said Run × List ℕ
ran_on n on (says going_on) t = on (n + 1) t
ran_on n on (says (ended e)) t = (says (after (n + 1) (an_end e)), t)
ran_on n on (refused r) t = (says (after n (cond (eqb r 9) nothing_runs refusal_10)), t)

-- n steps were taken, and so many may follow: each is a step of the step table
unfoldable pub run_from : Sizes → ℕ → ℕ → List ℕ → Said Run × List ℕ
run_from s zero n t = (says (after n spent), t)
run_from s (suc left) n t = ran_on n (run_from s left) (step_sized s t).0 (step_sized s t).1

unfoldable pub run_measured : ℕ → List ℕ → Option Sizes → Said Run × List ℕ
run_measured budget t None = (refused 1, t)
run_measured budget t (Some s) = run_from s budget 0 t

-- refusal 1, then as document 01 says
unfoldable pub run_of : ℕ → List ℕ → Said Run × List ℕ
run_of budget t = run_measured budget t (measured t)
