-- A stretch on which the next operation is refused, by runs: it is refused until one that runs has ended.
use Prim.Native.Nat.{ℕ, zero, suc, ◌+◌, ◌-◌, ◌≤◌, ◌<◌}
use Rattle.std.specs.Prelude.{◌≡◌, Bool, eqb, Option, Some, None, Result, Ok, Err}
use Rattle.std.proofs.Math.Path.{refl, ap}
use Rattle.std.proofs.Common.{sym, ◌∙◌, zero-add, sub-one}
use Rattle.std.proofs.Math.Bool.{true, false, cond}
use mathlib.Core.List.{List}
use native.Mathlib.Omega.{arith}
use Rattle.words.specs.declared.Sizes.{Sizes}
use Rattle.words.specs.Layout.{measured}
use Rattle.words.specs.Laws.{measured_fits}
use Rattle.answers.specs.declared.End.{End}
use Rattle.answers.specs.declared.Ran.{Ran}
use Rattle.answers.specs.declared.Refusal.{Refusal}
use Rattle.answers.specs.declared.Why as codes
use Rattle.answers.specs.declared.Why.TheVariants.{Ended, Spent, Idle, Damaged}
use Rattle.answers.specs.Said.{Said, refused, says, Step, going_on, ended, Run, after, an_end, spent, nothing_runs, refusal_10}
use Rattle.answers.specs.Said.{number, step_says, why_says, ran_says}
use Rattle.steps.specs.Step.{Out, step_sized}
use Rattle.steps.specs.Run.{ran_on, run_from}
use Rattle.steps.proofs.Singly.{Kept, step_kept, stepped_kept, sized_ended_within}
use Rattle.steps.proofs.After.{step_steady}
use Rattle.ways.specs.declared.Op.{Op}
use Rattle.ways.specs.Schedules.{accepts, Tried, stepped, begun}
use Rattle.ways.specs.Forced.{stretched, gone_on, end_in, last_in, Open}
use Rattle.ways.specs.Calls.{stepped_is, begun_steady}

-- accepted at once
pub stretch_open : (o : Op) (left : ℕ) (t : List ℕ) → (begun o t).0 ≡ true → stretched o left t ≡ (left, t)
unfolding stretched
stretch_open o zero t h = refl
stretch_open o (suc left) t h = rw h refl

pub stretch_none : (o : Op) (left : ℕ) (t : List ℕ) → left ≤ 0 → stretched o left t ≡ (0, t)
unfolding stretched
stretch_none o zero t h = refl
stretch_none o (suc left) t h = absurd (omega arith)

pub stretch_low : (o : Op) (left : ℕ) (t : List ℕ) → (stretched o left t).0 ≤ left
unfolding stretched
stretch_low o zero t = omega arith
stretch_low o (suc left) t = by (begun o t).0 (stepped t).0 (stretch_low o left (stepped t).1)
  where
    by : (b c : Bool) → (stretched o left (stepped t).1).0 ≤ left
        → (cond {A = ℕ × List ℕ} b (suc left, t) (cond {A = ℕ × List ℕ} c (stretched o left (stepped t).1) (0, (stepped t).1))).0 ≤ suc left
    by true c h = omega arith
    by false true h = omega (arith, h)
    by false false h = omega arith

-- what a run of so many leaves, where the operation was refused before it
unfoldable pub ran_stretch : Op → ℕ → Said Run × List ℕ → ℕ × List ℕ
ran_stretch o left (refused r, u) = (0, u)
ran_stretch o left (says (after k (an_end e)), u) = stretched o (left - k) u
ran_stretch o left (says (after k spent), u) = (0, u)
ran_stretch o left (says (after k nothing_runs), u) = (0, u)
ran_stretch o left (says (after k refusal_10), u) = (0, u)

stretch_step : (o : Op) (left : ℕ) (t : List ℕ) → (begun o t).0 ≡ false
    → stretched o (suc left) t ≡ cond (stepped t).0 (stretched o left (stepped t).1) (0, (stepped t).1)
unfolding stretched
stretch_step o left t h = rw h refl

module _ (o : Op) (s : Sizes) where
  run_stretch : (left k : ℕ) (t : List ℕ) → measured t ≡ Some s → (begun o t).0 ≡ false
      → stretched o left t ≡ ran_stretch o (k + left) (run_from s left k t)
  unfolding run_from ran_on ran_stretch
  run_stretch zero k t m h = stretch_none o 0 t (omega arith)
  run_stretch (suc left) k t m h =
      stretch_step o left t h
      ∙ ap (λ (x : Tried). cond x.0 (stretched o left x.1) (0, x.1)) (stepped_is s t m _ _ refl)
      ∙ by (step_sized s t) refl (step_kept s t m) (run_stretch left (k + 1))
    where
      by : (x : Out) → step_sized s t ≡ x → Kept s x
          → ((u : List ℕ) → measured u ≡ Some s → (begun o u).0 ≡ false
          → stretched o left u ≡ ran_stretch o (k + 1 + left) (run_from s left (k + 1) u))
          → cond (accepts x.0) (stretched o left x.1) (0, x.1) ≡ ran_stretch o (k + suc left) (ran_on k (run_from s left) x.0 x.1)
      by (says going_on, u) e kept ih =
          let steady = step_steady s t (measured_fits t s m).room u e in
          let still : (begun o u).0 ≡ false = begun_steady o s t u m kept.sized steady ∙ h in
          let z : k + 1 + left ≡ k + suc left = omega arith in
          rw (← z) (ih u kept.sized still)
      by (says (ended e), u) z kept ih =
          let same : left ≡ k + suc left - (k + 1) = omega arith in
          ap (λ (i : ℕ). stretched o i u) same
      by (refused r, u) e kept ih = why (eqb r 9)
        where
          why : (b : Bool) → (0, u) ≡ ran_stretch o (k + suc left) (says (after k (cond b nothing_runs refusal_10)), u)
          why true = refl
          why false = refl

  -- by what a run leaves
  pub stretch_ran : (left : ℕ) (t u : List ℕ) (b : Bool) (x : Said Run) → measured t ≡ Some s → b ≡ (begun o t).0 → b ≡ false
      → run_from s left 0 t ≡ (x, u) → stretched o left t ≡ ran_stretch o left (x, u)
  stretch_ran left t u b x m e h k =
      run_stretch left 0 t m (sym e ∙ h)
      ∙ ap (λ (i : ℕ). ran_stretch o i (run_from s left 0 t)) (zero-add left)
      ∙ ap (ran_stretch o left) k

  module _ (left : ℕ) (t u : List ℕ) (b : Bool) (r : Ran) (m : measured t ≡ Some s) (may : b ≡ (begun o t).0) (no : b ≡ false)
      (ran : run_from s left 0 t ≡ (says (ran_says r), u)) where
    -- an operation ended
    pub stretch_on : (d : End) → r.why ≡ Ended d → (stretched o left t ≡ stretched o (left - r.steps) u) × (0 < r.steps) × (r.steps ≤ left)
    unfolding ran_stretch
    stretch_on d e =
        let out : Said Run × List ℕ = (says (after r.steps (an_end d)), u) in
        let ended_so : run_from s left 0 t ≡ out = rw e at ran in
        let within = sized_ended_within s left r.steps t u d ended_so in
        (stretch_ran left t u b (says (after r.steps (an_end d))) m may no ended_so, within.0, within.1)

    -- or nothing follows
    pub stretch_off : ((d : End) → r.why ≡ Ended d → ⊥) → stretched o left t ≡ (0, u)
    unfolding ran_stretch
    stretch_off h = stretch_ran left t u b (says (ran_says r)) m may no ran ∙ by r.why h
      where
        by : (w : codes.Why) → ((d : End) → w ≡ Ended d → ⊥) → ran_stretch o left (says (after r.steps (why_says w)), u) ≡ (0, u)
        by (Ended d) h = absurd (h d refl)
        by Spent h = refl
        by Idle h = refl
        by Damaged h = refl

-- nothing follows
pub shut : (o : Op) (s : Sizes) (all : ℕ) (u : List ℕ) → measured u ≡ Some s → Open o s all 0 u
shut o s all u m = (omega arith, m, λ h. absurd (omega (arith, h)))

pub ruleset starts = (stretch_open, stretch_none, shut)

-- ---- a step where the operation is accepted

module _ (o : Op) (s : Sizes) (t u : List ℕ) (m : measured t ≡ Some s) where
  gone_step : (left : ℕ) (x : Said Step) → (left ≡ 0 → ⊥) → step_sized s t ≡ (x, u)
      → gone_on o left t ≡ cond (accepts x) (stretched o (left - 1) u) (0, u)
  unfolding gone_on
  gone_step zero x z e = absurd (z refl)
  gone_step (suc left) x z e = rw (stepped_is s t m u x e, sub-one) refl

  -- it is accepted still
  pub gone_going : (left : ℕ) → (begun o t).0 ≡ true → (left ≡ 0 → ⊥) → step_sized s t ≡ (says going_on, u)
      → (gone_on o left t ≡ (left - 1, u)) × (measured u ≡ Some s) × ((begun o u).0 ≡ true)
  gone_going left h z e =
      let kept = stepped_kept s t u (says going_on) m e in
      let steady = step_steady s t (measured_fits t s m).room u e in
      let still : (begun o u).0 ≡ true = begun_steady o s t u m kept steady ∙ h in
      (gone_step left (says going_on) z e ∙ stretch_open o (left - 1) u still, kept, still)

  -- whatever the number
  pub gone_refused_by : (left r : ℕ) → (left ≡ 0 → ⊥) → step_sized s t ≡ (refused r, u) → gone_on o left t ≡ (0, u)
  gone_refused_by left r z e = gone_step left (refused r) z e

  -- by what the step answers
  module _ (left : ℕ) (x : Result (Option End) Refusal) (some : left ≡ 0 → ⊥) (took : step_sized s t ≡ (step_says x, u)) where
    pub gone_table : measured u ≡ Some s
    gone_table = stepped_kept s t u (step_says x) m took

    pub gone_on_so : (begun o t).0 ≡ true → x ≡ Ok None → (gone_on o left t ≡ (left - 1, u)) × ((begun o u).0 ≡ true)
    gone_on_so h e = let went = gone_going left h some (rw e at took) in (went.0, went.2)

    pub gone_ended : (d : End) → x ≡ Ok (Some d) → gone_on o left t ≡ stretched o (left - 1) u
    gone_ended d e = gone_step left (says (ended d)) some (rw e at took)

    pub gone_refused : (r : Refusal) → x ≡ Err r → gone_on o left t ≡ (0, u)
    gone_refused r e = gone_refused_by left (number r) some (rw e at took)

pub gone_none : (o : Op) (left : ℕ) (t : List ℕ) → left ≡ 0 → gone_on o left t ≡ (0, t)
unfolding gone_on
gone_none o zero t h = refl
gone_none o (suc left) t h = absurd (omega arith)

-- ---- the last operation

pub last_none : (o : Op) (left : ℕ) (t : List ℕ) → left ≡ 0 → last_in o left t ≡ None
unfolding last_in
last_none o zero t h = refl
last_none o (suc left) t h = absurd (omega arith)

pub last_begun : (o : Op) (left : ℕ) (t u : List ℕ) (x : Option ℕ) → (left ≡ 0 → ⊥) → begun o t ≡ (true, u) → end_in (left - 1) 0 u ≡ x
    → last_in o left t ≡ x
unfolding last_in
last_begun o zero t u x h k e = absurd (h refl)
last_begun o (suc left) t u x h k e = rw k (simp sub-one at e)
