-- A run, level by level.
use Prim.Native.Nat.{ℕ, zero, suc, ◌+◌, ◌-◌, ◌≤◌, ◌<◌}
use Rattle.std.proofs.Math.Path.{◌≡◌, refl, ap}
use Rattle.std.proofs.Common.{sym, ◌∙◌, zero-add}
use mathlib.Core.List.{List}
use Rattle.std.specs.Prelude.{Bool, cond, eqb, None}
use Rattle.std.proofs.Math.Bool.{true, false}
use native.Mathlib.Omega.{arith}
use Rattle.words.specs.declared.Sizes.{Sizes}
use Rattle.answers.specs.declared.End.{End}
use Rattle.answers.specs.declared.Why as code
use Rattle.answers.specs.declared.Why.TheVariants as variant
use Rattle.answers.specs.Said.{Said, refused, says, going_on, ended, Why, why_says, Run, after, an_end, spent, nothing_runs, refusal_10}
use Rattle.steps.specs.Step.{Out, serving, step_served, step_sized}
use Rattle.steps.specs.Run.{ran_on, run_from}
use Rattle.steps.specs.Whole.{whole_on, whole_from, ran_from}
use Rattle.steps.proofs.Singly.{sized_within}

-- n steps were taken, and then a run of what is left gave this
unfoldable pub ran_by : Bool → Sizes → ℕ → ℕ → Said Run × List ℕ → Said Run × List ℕ
ran_by whole s left n (refused r, u) = (refused r, u)
ran_by whole s left n (says (after k (an_end e)), u) =
    cond whole (whole_from s (left - k) (n + k) u) (says (after (n + k) (an_end e)), u)
ran_by whole s left n (says (after k spent), u) = (says (after (n + k) spent), u)
ran_by whole s left n (says (after k nothing_runs), u) = (says (after (n + k) nothing_runs), u)
ran_by whole s left n (says (after k refusal_10), u) = (says (after (n + k) refusal_10), u)

module _ (s : Sizes) where
  stopped : (whole : Bool) (left n k r : ℕ) (u : List ℕ)
      → ◌≡◌ {A = Said Run × List ℕ} (says (after (n + k) (cond (eqb r 9) nothing_runs refusal_10)), u)
      (ran_by whole s left n (says (after k (cond (eqb r 9) nothing_runs refusal_10)), u))
  unfolding ran_by
  stopped whole left n k r u = by (eqb r 9)
    where
      by : (b : Bool)
          → ◌≡◌ {A = Said Run × List ℕ} (says (after (n + k) (cond b nothing_runs refusal_10)), u)
          (ran_by whole s left n (says (after k (cond b nothing_runs refusal_10)), u))
      by true = refl
      by false = refl

  -- after k of the steps of the run
  levels_by : (whole : Bool) (left n k : ℕ) (t : List ℕ) → ran_from whole s left (n + k) t ≡ ran_by whole s (k + left) n (run_from s left k t)
  unfolding run_from ran_on whole_from whole_on ran_by
  levels_by true zero n k t = refl
  levels_by false zero n k t = refl
  levels_by true (suc left) n k t = by (step_sized s t) (levels_by true left n (k + 1))
    where
      by : (x : Out) → ((u : List ℕ) → whole_from s left (n + (k + 1)) u ≡ ran_by true s (k + 1 + left) n (run_from s left (k + 1) u))
          → whole_on (n + k) (whole_from s left) x.0 x.1 ≡ ran_by true s (k + suc left) n (ran_on k (run_from s left) x.0 x.1)
      by (says going_on, u) ih =
          let e : k + 1 + left ≡ k + suc left = omega arith in
          let f : n + (k + 1) ≡ n + k + 1 = omega arith in
          rw (← f, ← e) (ih u)
      by (says (ended d), u) ih =
          let z : left ≡ k + suc left - (k + 1) = omega arith in
          let f : n + k + 1 ≡ n + (k + 1) = omega arith in
          ap (λ (i : ℕ). whole_from s i (n + k + 1) u) z ∙ ap (λ (i : ℕ). whole_from s (k + suc left - (k + 1)) i u) f
      by (refused r, u) ih = stopped true (k + suc left) n k r u
  levels_by false (suc left) n k t = by (step_sized s t) (levels_by false left n (k + 1))
    where
      by : (x : Out) → ((u : List ℕ) → run_from s left (n + (k + 1)) u ≡ ran_by false s (k + 1 + left) n (run_from s left (k + 1) u))
          → ran_on (n + k) (run_from s left) x.0 x.1 ≡ ran_by false s (k + suc left) n (ran_on k (run_from s left) x.0 x.1)
      by (says going_on, u) ih =
          let e : k + 1 + left ≡ k + suc left = omega arith in
          let f : n + (k + 1) ≡ n + k + 1 = omega arith in
          rw (← f, ← e) (ih u)
      by (says (ended d), u) ih =
          let f : n + k + 1 ≡ n + (k + 1) = omega arith in ap (λ (i : ℕ). (says (after i (an_end d)), u)) f
      by (refused r, u) ih = stopped false (k + suc left) n k r u

  pub levels_on : (whole : Bool) (left n : ℕ) (t u : List ℕ) (x : Said Run) → run_from s left 0 t ≡ (x, u)
      → ran_from whole s left n t ≡ ran_by whole s left n (x, u)
  levels_on whole left n t u x e =
      let z : n + 0 ≡ n = omega arith in
      ap (λ (i : ℕ). ran_from whole s left i t) (sym z)
      ∙ levels_by whole left n 0 t
      ∙ ap (λ (i : ℕ). ran_by whole s i n (run_from s left 0 t)) (zero-add left)
      ∙ ap (ran_by whole s left n) e

  pub levels_none : (whole : Bool) (left n : ℕ) (t : List ℕ) → left ≤ 0 → ran_from whole s left n t ≡ (says (after n spent), t)
  unfolding run_from whole_from
  levels_none true zero n t h = refl
  levels_none false zero n t h = refl
  levels_none whole (suc left) n t h = absurd (omega arith)

  -- nothing runs
  pub levels_idle : (whole : Bool) (left n : ℕ) (t : List ℕ) → 0 < left → serving s t s.levels ≡ None
      → ran_from whole s left n t ≡ (says (after n nothing_runs), t)
  unfolding run_from ran_on whole_from whole_on step_sized step_served
  levels_idle whole zero n t p h = absurd (omega arith)
  levels_idle true (suc left) n t p h = rw h refl
  levels_idle false (suc left) n t p h = rw h refl

  -- of all the steps some are left
  pub levels_start : (whole : Bool) (all : ℕ) (t : List ℕ) → ran_from whole s all 0 t ≡ ran_from whole s all (all - all) t
  levels_start whole all t = let e : 0 ≡ all - all = omega arith in ap (λ (i : ℕ). ran_from whole s all i t) e

  module _ (whole : Bool) (all left k : ℕ) (t u : List ℕ) (low : left ≤ all) where
    taken : (w : Why) → run_from s left 0 t ≡ (says (after k w), u) → all - left + k ≡ all - (left - k)
    taken w ran = omega (arith, low, sized_within s left k t u w ran)

    -- on after an end
    pub levels_more : (e : End) → run_from s left 0 t ≡ (says (after k (an_end e)), u) → whole ≡ true
        → ran_from whole s left (all - left) t ≡ ran_from whole s (left - k) (all - (left - k)) u
    unfolding ran_by
    levels_more e ran y =
        levels_on whole left (all - left) t u _ ran ∙ rw y (ap (λ (i : ℕ). whole_from s (left - k) i u) (taken (an_end e) ran))

    -- or not
    pub levels_stop : (w : code.Why) → ((e : End) → w ≡ variant.Ended e → whole ≡ false)
        → run_from s left 0 t ≡ (says (after k (why_says w)), u)
        → ran_from whole s left (all - left) t ≡ (says (after (all - (left - k)) (why_says w)), u)
    unfolding ran_by
    levels_stop (variant.Ended e) stop ran =
        levels_on whole left (all - left) t u _ ran
        ∙ rw (stop e refl) (ap (λ (i : ℕ). (says (after i (an_end e)), u)) (taken (an_end e) ran))
    levels_stop variant.Spent stop ran =
        levels_on whole left (all - left) t u _ ran ∙ ap (λ (i : ℕ). (says (after i spent), u)) (taken spent ran)
    levels_stop variant.Idle stop ran =
        levels_on whole left (all - left) t u _ ran ∙ ap (λ (i : ℕ). (says (after i nothing_runs), u)) (taken nothing_runs ran)
    levels_stop variant.Damaged stop ran =
        levels_on whole left (all - left) t u _ ran ∙ ap (λ (i : ℕ). (says (after i refusal_10), u)) (taken refusal_10 ran)
