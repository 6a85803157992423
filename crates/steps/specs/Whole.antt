-- A run that goes on where an operation ends, until nothing runs.
use Rattle.std.specs.Prelude.{ℕ, zero, suc, ◌+◌, List, Bool, cond, eqb}
use Rattle.words.specs.declared.Sizes.{Sizes}
use Rattle.answers.specs.Said.{Said, refused, says, Step, Run, after, spent, nothing_runs, refusal_10}
use Rattle.steps.specs.Step.{step_sized}
use Rattle.steps.specs.Run.{run_from}

-- n steps were taken before one that says this and leaves the table t
unfoldable pub whole_on : ℕ → (ℕ → List ℕ → Said Run × List ℕ) → Said Step → List ℕ → Said Run × List ℕ
whole_on n on (says x) t = on (n + 1) t
whole_on n on (refused r) t = (says (after n (cond (eqb r 9) nothing_runs refusal_10)), t)

-- n steps were taken, and so many may follow
unfoldable pub whole_from : Sizes → ℕ → ℕ → List ℕ → Said Run × List ℕ
whole_from s zero n t = (says (after n spent), t)
whole_from s (suc left) n t = whole_on n (whole_from s left) (step_sized s t).0 (step_sized s t).1

-- the whole of it, or to the first end
abbrev pub ran_from : Bool → Sizes → ℕ → ℕ → List ℕ → Said Run × List ℕ
ran_from whole s left n t = cond whole (whole_from s left n t) (run_from s left n t)
