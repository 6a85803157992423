-- A step keeps the table's sizes, and a run of so many takes so many at most: what is done by single steps can be done by runs.
use Prim.Native.Nat.{ℕ, zero, suc, ◌+◌, ◌≤◌, ◌<◌}
use Rattle.std.proofs.Math.Path.{◌≡◌, refl, ap}
use Rattle.std.proofs.Common.{subst, inr}
use Rattle.std.specs.Prelude.{◌⊎◌, Bool, cond, eqb, Option, Some, None}
use Rattle.std.proofs.Math.Logic.{inl}
use mathlib.Core.List.{List}
use Rattle.std.proofs.Math.Bool.{true, false}
use native.Mathlib.Omega.{arith}
use Rattle.words.specs.declared.Level.{Level}
use Rattle.words.specs.declared.Sizes.{Sizes}
use Rattle.words.specs.declared.Frame.{Frame}
use Rattle.words.specs.declared.Word.TheVariants.{Next, Use}
use Rattle.words.specs.Layout.{measured, has, wr, no_frame}
use Rattle.words.specs.Laws.{measured_wr, measured_put, measured_fits, has_use}
use Rattle.answers.specs.declared.End.{End}
use Rattle.answers.specs.Said.{Said, refused, says, Step, going_on, ended, Why, Run, after, an_end, spent, nothing_runs, refusal_10}
use Rattle.table.specs.Table.{Row, loads, stores, frees, nothing}
use Rattle.table.specs.declared.After.{After}
use Rattle.table.specs.declared.After.TheVariants.{Go, Done}
use Rattle.steps.specs.Step.{Out, sound, settled, performed, step_frame, step_served, step_sized, step_measured, step_of}
use Rattle.steps.specs.Run.{ran_on, run_from, run_measured, run_of}
use Rattle.steps.specs.Held.{step_of_run}
use Rattle.steps.proofs.After.{Down, step_down}

-- the refusals of a step of a table that was measured
abbrev pub Known : Said Step → Type 0
Known (refused r) = (r ≡ 9) ⊎ (r ≡ 10)
Known (says x) = Unit

-- a step keeps the table's sizes
pub record Kept (s : Sizes) (x : Out) : Type 0 where
  pub sized : measured x.1 ≡ Some s
  pub known : Known x.0

module _ (s : Sizes) where
  damaged : (t : List ℕ) → measured t ≡ Some s → Kept s (refused 10, t)
  damaged t m = record { sized = m; known = inr refl }

  settled_kept : (t : List ℕ) (l : Level) (f : Frame) (next : After) → measured t ≡ Some s → Kept s (settled s t l f next)
  unfolding settled
  settled_kept t l f (Go g) m = record { sized = measured_put s t l g m; known = tt }
  settled_kept t l f (Done n) m = record { sized = measured_put s t l no_frame m; known = tt }

  -- an access, where its word is one of the table's
  access_kept : (b : Bool) (x : Out) (t : List ℕ) → measured t ≡ Some s → (b ≡ true → Kept s x) → Kept s (cond b x (refused 10, t))
  access_kept true x t m k = k refl
  access_kept false x t m k = damaged t m

  performed_kept : (t : List ℕ) (l : Level) (f : Frame) (r : Row) → measured t ≡ Some s → Kept s (performed s t l f r)
  unfolding performed
  performed_kept t l f (loads w next) m = access_kept (has s w) _ t m (λ h. settled_kept t l f _ m)
  performed_kept t l f (stores w v next) m =
      access_kept (has s w) _ t m (λ h. settled_kept (wr s t w v) l f next (measured_wr s t w v m h))
  performed_kept t l f (frees n next) m =
      access_kept (has s (Next n)) _ t m
      (λ h. settled_kept _ l f next (measured_wr s _ (Use n) 0 (measured_wr s t (Next n) 0 m h) (has_use s n h)))
  performed_kept t l f nothing m = damaged t m

  served_kept : (t : List ℕ) (v : Option Level) → measured t ≡ Some s → Kept s (step_served s t v)
  unfolding step_served step_frame
  served_kept t None m = record { sized = m; known = inl refl }
  served_kept t (Some l) m = access_kept (sound s _) _ t m (λ h. performed_kept t l _ _ m)

  pub step_kept : (t : List ℕ) → measured t ≡ Some s → Kept s (step_sized s t)
  unfolding step_sized
  step_kept t m = served_kept t _ m

  pub stepped_kept : (t u : List ℕ) (x : Said Step) → measured t ≡ Some s → step_sized s t ≡ (x, u) → measured u ≡ Some s
  stepped_kept t u x m e = let at : (step_sized s t).1 ≡ u = ap (λ (y : Out). y.1) e in rw at at (step_kept t m).sized

  pub step_is : (t : List ℕ) → measured t ≡ Some s → step_of t ≡ step_sized s t
  unfolding step_of step_measured
  step_is t m = rw m

pub run_is : (s : Sizes) (left : ℕ) (t : List ℕ) → measured t ≡ Some s → run_of left t ≡ run_from s left 0 t
unfolding run_of run_measured
run_is s left t m = rw m

-- a step is a run of one
pub step_by_run : (s : Sizes) (t u : List ℕ) (y : Said Run) → measured t ≡ Some s → run_from s 1 0 t ≡ (y, u)
    → step_sized s t ≡ (step_of_run y, u)
unfolding run_from ran_on
step_by_run s t u y m h = by (step_sized s t) (step_kept s t m).known h
  where
    of : Said Run × List ℕ → Out
    of z = (step_of_run z.0, z.1)

    by : (x : Out) → Known x.0 → ran_on 0 (run_from s 0) x.0 x.1 ≡ (y, u) → x ≡ (step_of_run y, u)
    by (says going_on, v) k e = ap of e
    by (says (ended d), v) k e = ap of e
    by (refused r, v) (inl nine) e = rw nine (ap of (rw nine at e))
    by (refused r, v) (inr ten) e = rw ten (ap of (rw ten at e))

-- how many steps a run takes, where n were taken before
abbrev Within : ℕ → ℕ → Said Run → Type 0
Within n left (refused r) = Unit
Within n left (says (after m (an_end e))) = (n < m) × (m ≤ n + left)
Within n left (says (after m spent)) = m ≡ n + left
Within n left (says (after m nothing_runs)) = m ≤ n + left
Within n left (says (after m refusal_10)) = m ≤ n + left

wider : (n left : ℕ) (y : Said Run) → Within (n + 1) left y → Within n (suc left) y
wider n left (refused r) h = tt
wider n left (says (after m (an_end e))) h = (omega (arith, h.0), omega (arith, h.1))
wider n left (says (after m spent)) h = omega arith
wider n left (says (after m nothing_runs)) h = omega arith
wider n left (says (after m refusal_10)) h = omega arith

module _ (s : Sizes) where
  run_within : (left n : ℕ) (t : List ℕ) → Within n left (run_from s left n t).0
  unfolding run_from ran_on
  run_within zero n t = omega arith
  run_within (suc left) n t = by (step_sized s t) (run_within left (n + 1))
    where
      by : (x : Out) → ((u : List ℕ) → Within (n + 1) left (run_from s left (n + 1) u).0)
          → Within n (suc left) (ran_on n (run_from s left) x.0 x.1).0
      by (says going_on, u) ih = wider n left (run_from s left (n + 1) u).0 (ih u)
      by (says (ended e), u) ih = (omega arith, omega arith)
      by (refused r, u) ih = why (eqb r 9)
        where
          why : (b : Bool) → Within n (suc left) (says (after n (cond b nothing_runs refusal_10)))
          why true = omega arith
          why false = omega arith

  pub sized_ended_within : (left m : ℕ) (t u : List ℕ) (e : End) → run_from s left 0 t ≡ (says (after m (an_end e)), u)
      → (0 < m) × (m ≤ left)
  sized_ended_within left m t u e h =
      let w : Within 0 left (says (after m (an_end e))) =
      subst (λ (x : Said Run × List ℕ). Within 0 left x.0) h (run_within left 0 t) in
      (omega (arith, w.0), omega (arith, w.1))

  -- whatever stopped it
  pub sized_within : (left m : ℕ) (t u : List ℕ) (x : Why) → run_from s left 0 t ≡ (says (after m x), u) → m ≤ left
  sized_within left m t u x h = by x (subst (λ (y : Said Run × List ℕ). Within 0 left y.0) h (run_within left 0 t))
    where
      by : (x : Why) → Within 0 left (says (after m x)) → m ≤ left
      by (an_end e) w = omega (arith, w.1)
      by spent w = omega (arith, w)
      by nothing_runs w = omega (arith, w)
      by refusal_10 w = omega (arith, w)

  -- a budget is spent where all of it was taken
  pub sized_spent : (left m : ℕ) (t u : List ℕ) → run_from s left 0 t ≡ (says (after m spent), u) → m ≡ left
  sized_spent left m t u h =
      let w : Within 0 left (says (after m spent)) =
      subst (λ (x : Said Run × List ℕ). Within 0 left x.0) h (run_within left 0 t) in
      omega (arith, w)

  run_kept : (left n : ℕ) (t : List ℕ) → measured t ≡ Some s → measured (run_from s left n t).1 ≡ Some s
  unfolding run_from ran_on
  run_kept zero n t m = m
  run_kept (suc left) n t m = by (step_sized s t) (step_kept s t m) (run_kept left (n + 1))
    where
      by : (x : Out) → Kept s x → ((u : List ℕ) → measured u ≡ Some s → measured (run_from s left (n + 1) u).1 ≡ Some s)
          → measured (ran_on n (run_from s left) x.0 x.1).1 ≡ Some s
      by (says going_on, u) h ih = ih u h.sized
      by (says (ended e), u) h ih = h.sized
      by (refused r, u) h ih = h.sized

  -- a run keeps the table's sizes
  pub ran_kept : (left n : ℕ) (t u : List ℕ) (x : Said Run) → measured t ≡ Some s → run_from s left n t ≡ (x, u) → measured u ≡ Some s
  ran_kept left n t u x m e = let at : (run_from s left n t).1 ≡ u = ap (λ (y : Said Run × List ℕ). y.1) e in rw at at (run_kept left n t m)

  -- and where it ends an operation, nothing runs at its level or above
  pub run_down : (left n m : ℕ) (t u : List ℕ) (e : End) → measured t ≡ Some s → run_from s left n t ≡ (says (after m (an_end e)), u)
      → Down s e u
  unfolding run_from ran_on
  run_down zero n m t u e k h =
      let said : says (after n spent) ≡ says (after m (an_end e)) = ap (λ (x : Said Run × List ℕ). x.0) h in
      cc
  run_down (suc left) n m t u e k h = by (step_sized s t) refl (step_kept s t k) (run_down left (n + 1) m) h
    where
      by : (x : Out) → step_sized s t ≡ x → Kept s x
          → ((t u : List ℕ) (e : End) → measured t ≡ Some s → run_from s left (n + 1) t ≡ (says (after m (an_end e)), u) → Down s e u)
          → ran_on n (run_from s left) x.0 x.1 ≡ (says (after m (an_end e)), u)
          → Down s e u
      by (says going_on, v) z kept ih j = ih v u e kept.sized j
      by (says (ended d), v) z kept ih j =
          let at : v ≡ u = ap (λ (x : Said Run × List ℕ). x.1) j in
          let said : says (after (n + 1) (an_end d)) ≡ says (after m (an_end e)) = ap (λ (x : Said Run × List ℕ). x.0) j in
          let same : d ≡ e = cc in
          rw at at (rw same at (step_down s t (measured_fits t s k).room d v z))
      by (refused r, v) z kept ih j = why (eqb r 9) (ap (λ (x : Said Run × List ℕ). x.0) j)
        where
          why : (b : Bool) → says (after n (cond b nothing_runs refusal_10)) ≡ says (after m (an_end e)) → Down s e u
          why true i = cc
          why false i = cc

pub ended_within : (left m : ℕ) (t u : List ℕ) (e : End) → run_of left t ≡ (says (after m (an_end e)), u) → (0 < m) × (m ≤ left)
unfolding run_of run_measured
ended_within left m t u e h = by (measured t) h
  where
    by : (x : Option Sizes) → run_measured left t x ≡ (says (after m (an_end e)), u) → (0 < m) × (m ≤ left)
    by None k =
        let said : refused 1 ≡ says (after m (an_end e)) = ap (λ (x : Said Run × List ℕ). x.0) k in
        cc
    by (Some s) k = sized_ended_within s left m t u e k
