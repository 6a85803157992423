-- A dequeue at level l of a table and one at the new level of its copy, side by side: what it means that they are alike, and that each
-- branch of the step table keeps them so. After E2 the copy's dequeue has more levels to look at, and the table's waits for it.
use Prim.Native.Nat.{ℕ, suc, ◌-◌, ◌≤◌, ◌<◌}
use mathlib.Core.Path.{◌≡◌, refl}
use mathlib.Core.Logic.{◌≢◌}
use mathlib.Core.Bool.{Bool, true, false, cond}
use native.Mathlib.Omega.{arith}
use lib.Dec.{eqb}
use Rattle.words.specs.declared.Node.{Node}
use Rattle.words.specs.declared.Frame.{Frame}
use Rattle.words.specs.Layout.{level}
use Rattle.table.specs.declared.After.{After}
use Rattle.table.specs.declared.After.TheVariants.{Go, Done}
use Rattle.table.specs.Points.{Point, E3, E7, E13, E15, E17, number_of}
use Rattle.table.specs.Frames.{frame, at, set_k, if_eq, below_k_to, below_m_to, walk_to, to, below_k, below_m, walk}
use Rattle.table.specs.Laws.{if_same, if_other}
use Rattle.state.specs.Mem.{Mem}
use Rattle.drains.proofs.Lift.{Bumped, at_top, other}

-- f with another m and another number of steps
abbrev pub twin : Frame → ℕ → ℕ → Frame
twin f m s = frame f.op f.point f.queue f.node f.k f.p f.c f.a f.r (level m) s

-- the table has so many levels, top; its dequeue runs at level l, the copy's at level top, and both are on queue q
module _ (top l q : ℕ) where
  -- A is the table's memory, B the copy's: what both read is the same, and on the copy no level from l up to the new one is registered
  pub record Alike (A B : Mem) : Type 0 where
    pub head : (j : ℕ) → A.head j ≡ B.head j
    pub tail : (j : ℕ) → A.tail j ≡ B.tail j
    pub next : (j : ℕ) → A.next j ≡ B.next j
    pub ln : (j : ℕ) → j < l → A.ln j ≡ B.ln j
    pub lq : (j : ℕ) → j < l → A.lq j ≡ B.lq j
    pub between : (j : ℕ) → l ≤ j → j < top → B.lq j ≢ q

  -- f is the frame of the table's dequeue. That of the copy's is the same but for its steps, and for m, which is one more where it is the
  -- number of levels. Or, after E2: e has become f, by passing to the level below l, while the copy's dequeue still looks at level k, one
  -- of those from l on, which only it has below it.
  pub data Standing (f : Frame) : Frame → Type 0 where
    beside : {m s : ℕ} → Bumped top f.m.0 m → Standing f (twin f m s)
    looks : {m s : ℕ} (e : Frame) (k : ℕ) → l ≤ k → k < top → Bumped top e.m.0 m → below_k E7 E3 (set_k (level l) e) ≡ Go f
        → Standing f (twin (at (number_of E3) (set_k (level k) e)) m s)

  -- what follows a step of each
  pub data Both : After → After → Type 0 where
    go : {f g : Frame} → Standing f g → Both (Go f) (Go g)
    end : {n : Node} → Both (Done n) (Done n)

-- ---- the branches of the step table

pub looks_lower : (f : Frame) → f.k.0 ≢ 0 → below_k E7 E3 f ≡ to E3 (set_k (level (f.k.0 - 1)) f)
unfolding below_k_to
looks_lower f n = if_other f.k.0 0 (to E7 f) (to E3 (set_k (level (f.k.0 - 1)) f)) n

goes_below : (f : Frame) → (g : Frame) × (below_k E7 E3 f ≡ Go g)
unfolding below_k_to if_eq
goes_below f = by (eqb f.k.0 0)
  where
    by : (t : Bool) → (g : Frame) × (cond t (to E7 f) (to E3 (set_k (level (f.k.0 - 1)) f)) ≡ Go g)
    by true = (at (number_of E7) f, refl)
    by false = (at (number_of E3) (set_k (level (f.k.0 - 1)) f), refl)

-- an m below level l is the same on the copy
module _ {top l : ℕ} (low : l < top) where
  pub below_top : {m : ℕ} → m < l → Bumped top m m
  below_top c = other (λ z. omega arith) refl

  pub same_m : {m m' : ℕ} → m < l → Bumped top m m' → m' ≡ m
  same_m c (at_top a b) = absurd (omega arith)
  same_m c (other a b) = b

module _ {top l q : ℕ} where
  pub on : {f : Frame} {m s : ℕ} → Bumped top f.m.0 m → Both top l q (Go f) (Go (twin f m s))
  on w = go (beside w)

  pub by_eq : {x y x' y' : After} (a b : ℕ) → Both top l q x x' → Both top l q y y' → Both top l q (if_eq a b x y) (if_eq a b x' y')
  unfolding if_eq
  by_eq {x} {y} {x'} {y'} a b h k = by (eqb a b)
    where
      by : (t : Bool) → Both top l q (cond t x y) (cond t x' y')
      by true = h
      by false = k

  module _ (f : Frame) (m s : ℕ) (w : Bumped top f.m.0 m) where
    pub walks : (x : Point) (v : ℕ) → Both top l q (walk x v f) (walk x v (twin f m s))
    unfolding walk_to
    walks x v = by_eq _ _ (on w) (on w)

    pub below_k_holds : (x y : Point) → Both top l q (below_k x y f) (below_k x y (twin f m s))
    unfolding below_k_to
    below_k_holds x y = by_eq _ _ (on w) (on w)

  module _ (low : l < top) where
    pub below_m_holds : (f : Frame) (s : ℕ) → f.m.0 < l → (x y : Point) → Both top l q (below_m x y f) (below_m x y (twin f f.m.0 s))
    unfolding below_m_to
    below_m_holds f s c x y = by_eq _ _ (on (below_top low c)) (on (other (λ z. omega arith) refl))

    -- E2: the copy's dequeue looks at the highest of the levels between first
    pub enters : (f : Frame) (m s : ℕ) → Bumped top f.m.0 m
        → Both top l q (below_k E7 E3 (set_k (level l) f)) (below_k E7 E3 (set_k (level top) (twin f m s)))
    enters f m s w =
        let gone = goes_below (set_k (level l) f) in
        let lower = looks_lower (set_k (level top) (twin f m s)) (λ z. omega arith) in
        rw (gone.1, lower) (go (looks f (top - 1) (omega arith) (omega arith) w gone.1))

    -- E16, at the end of a walk
    pub walked : (f : Frame) (m s : ℕ) → (f.m.0 ≢ top → f.m.0 < l) → Bumped top f.m.0 m
        → Both top l q (if_eq f.m.0 top (to E17 f) (below_m E15 E13 f))
        (if_eq m (suc top) (to E17 (twin f m s)) (below_m E15 E13 (twin f m s)))
    walked f m s c (at_top a b) =
        let here = if_same f.m.0 top (to E17 f) (below_m E15 E13 f) a in
        let there = if_same m (suc top) (to E17 (twin f m s)) (below_m E15 E13 (twin f m s)) b in
        rw (here, there) (on (at_top a b))
    walked f m s c (other a b) =
        let small = c a in
        let here = if_other f.m.0 top (to E17 f) (below_m E15 E13 f) a in
        let there = if_other m (suc top) (to E17 (twin f m s)) (below_m E15 E13 (twin f m s)) (λ z. omega arith) in
        rw (here, there) (rw b (below_m_holds f s small E15 E13))
