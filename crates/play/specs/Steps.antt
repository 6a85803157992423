-- A run is so many single steps: what is played by single steps can be played by runs.
use Prim.Native.Nat.{ℕ, zero, suc, ◌+◌, ◌-◌, ◌<◌}
use Rattle.std.specs.Prelude.{◌≡◌, ◌⊎◌, cond, eqb, Option, Some, None}
use Rattle.std.proofs.Math.Path.{refl, ap}
use Rattle.std.proofs.Common.{◌∙◌, inl, inr, zero-add}
use mathlib.Core.List.{List, []}
use native.Mathlib.Omega.{arith}
use Rattle.words.specs.declared.Sizes.{Sizes}
use Rattle.words.specs.Layout.{measured}
use Rattle.answers.specs.declared.End.{End}
use Rattle.answers.specs.Said.{Said, refused, says, going_on, ended, Run, after, an_end, spent, nothing_runs, refusal_10}
use Rattle.steps.specs.Step.{Out, step_sized, step_measured, step_of}
use Rattle.steps.specs.Run.{ran_on, run_from, run_measured, run_of}
use Rattle.steps.proofs.Singly.{Kept, step_kept, step_is}
use Rattle.play.specs.Play.{Played, before, go_on, steps_of}

-- what a run leaves to play, of so many steps in all
unfoldable pub ran_played : (End → List ℕ) → ℕ → Said Run × List ℕ → Played
ran_played line all (refused r, t) = ([], (refused r, t))
ran_played line all (says (after n (an_end e)), t) = before (line e) (steps_of line (all - n) t)
ran_played line all (says (after n spent), t) = ([], (says tt, t))
ran_played line all (says (after n nothing_runs), t) = ([], (refused 9, t))
ran_played line all (says (after n refusal_10), t) = ([], (refused 10, t))

module _ (line : End → List ℕ) (s : Sizes) where
  run_played : (left n : ℕ) (t : List ℕ) → measured t ≡ Some s → steps_of line left t ≡ ran_played line (n + left) (run_from s left n t)
  unfolding steps_of go_on run_from ran_on ran_played
  run_played zero n t m = refl
  run_played (suc left) n t m =
      ap (go_on line (steps_of line left)) (step_is s t m) ∙ by (step_sized s t) (step_kept s t m) (run_played left (n + 1))
    where
      by : (x : Out) → Kept s x
          → ((u : List ℕ) → measured u ≡ Some s → steps_of line left u ≡ ran_played line (n + 1 + left) (run_from s left (n + 1) u))
          → go_on line (steps_of line left) x ≡ ran_played line (n + suc left) (ran_on n (run_from s left) x.0 x.1)
      by (says going_on, u) k ih =
          let e : n + 1 + left ≡ n + suc left = omega arith in rw e at (ih u k.sized)
      by (says (ended e), u) k ih =
          let z : left ≡ n + suc left - (n + 1) = omega arith in ap (λ (i : ℕ). before (line e) (steps_of line i u)) z
      by (refused r, u) k ih = why r k.known
        where
          why : (r : ℕ) → (r ≡ 9) ⊎ (r ≡ 10)
              → ([], (refused r, u)) ≡ ran_played line (n + suc left) (says (after n (cond (eqb r 9) nothing_runs refusal_10)), u)
          why r (inl e) = rw e
          why r (inr e) = rw e

pub steps_run : (line : End → List ℕ) (left : ℕ) (t : List ℕ) → 0 < left → steps_of line left t ≡ ran_played line left (run_of left t)
unfolding run_of run_measured steps_of go_on step_of step_measured ran_played
steps_run line zero t h = absurd (omega arith)
steps_run line (suc n) t h = by (measured t) refl
  where
    by : (x : Option Sizes) → measured t ≡ x → steps_of line (suc n) t ≡ ran_played line (suc n) (run_measured (suc n) t x)
    by None m = rw m
    by (Some s) m = rw zero-add at (run_played line s (suc n) 0 t m)
