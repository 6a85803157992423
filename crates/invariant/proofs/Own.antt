-- The count that says which nodes are a queue's: 0 or 1, and how a use word changes it.
use Prim.Native.Nat.{ℕ, ◌+◌, ◌≤◌, ◌<◌}
use mathlib.Core.Path.{◌≡◌, refl}
use mathlib.Core.Logic.{◌≢◌, ◌⊎◌, inl, inr}
use mathlib.Core.Bool.{Bool, true, false, cond}
use mathlib.Core.List.{[], ◌∷◌}
use native.Mathlib.Omega.{arith}
use lib.Dec.{eqb, ltb}
use borrow.Author.Tests.{ltb-true, ltb-false, lt-ltb, ne_eqb}
use Rattle.lists.specs.Count.{Same, same, apart, same?, hit, cnt, cnt_cons, cnt_nil, eqb_self, counts}
use Rattle.state.specs.Mem.{put, put_same, put_other}
use Rattle.state.specs.Queues.{own}

hit_le : (b : Bool) → hit b ≤ 1
hit_le true = omega arith
hit_le false = omega arith

hit_is : (a b : ℕ) → hit (eqb a b) ≡ 1 → a ≡ b
hit_is a b = by (eqb a b) (same? a b)
  where
    by : (t : Bool) → Same a b t → hit t ≡ 1 → a ≡ b
    by true (same e) h = e
    by false (apart e) h = absurd (omega arith)

pub own_le : (Q : ℕ) (uses : ℕ → ℕ) (q x : ℕ) → own Q uses q x ≤ 1
unfolding own
own_le Q uses q x = by (ltb Q x)
  where
    by : (a : Bool) → cond a (hit (eqb (uses x) q)) (hit (eqb x q)) ≤ 1
    by true = hit_le (eqb (uses x) q)
    by false = hit_le (eqb x q)

-- a node of queue q is its sentinel, or the user's and its use names q
pub own_is : (Q : ℕ) (uses : ℕ → ℕ) (q x : ℕ) → own Q uses q x ≡ 1 → (x ≡ q) ⊎ ((Q < x) × (uses x ≡ q))
unfolding own
own_is Q uses q x = by (ltb Q x) refl
  where
    by : (a : Bool) → ltb Q x ≡ a → cond a (hit (eqb (uses x) q)) (hit (eqb x q)) ≡ 1 → (x ≡ q) ⊎ ((Q < x) × (uses x ≡ q))
    by true e h = inr (ltb-true Q x e, hit_is (uses x) q h)
    by false e h = inl (hit_is x q h)

pub own_user : (Q : ℕ) (uses : ℕ → ℕ) (q x : ℕ) → own Q uses q x ≡ 1 → x ≢ q → Q < x
own_user Q uses q x h n = by (own_is Q uses q x h)
  where
    by : (x ≡ q) ⊎ ((Q < x) × (uses x ≡ q)) → Q < x
    by (inl e) = absurd (n e)
    by (inr e) = e.0

-- it is a node of the table
pub own_in : (Q N : ℕ) (uses : ℕ → ℕ) (q x : ℕ) → 1 ≤ q → q ≤ Q → Q ≤ N → ((n : ℕ) → N < n → uses n ≡ 0) → own Q uses q x ≡ 1
    → (1 ≤ x) × (x ≤ N)
own_in Q N uses q x a b c u h = by (own_is Q uses q x h) (ltb N x) refl
  where
    by : (x ≡ q) ⊎ ((Q < x) × (uses x ≡ q)) → (t : Bool) → ltb N x ≡ t → (1 ≤ x) × (x ≤ N)
    by (inl e) t k = omega arith
    by (inr e) true k = absurd (omega (arith, e, u x (ltb-true N x k)))
    by (inr e) false k = omega (arith, e, ltb-false N x k)

pub own_zero : (Q : ℕ) (uses : ℕ → ℕ) (q : ℕ) → 1 ≤ q → own Q uses q 0 ≡ 0
own_zero Q uses q h = let k = own_le Q uses q 0 in let n : own Q uses q 0 ≢ 1 = λ e. none (own_is Q uses q 0 e) in
    omega arith
  where
    none : (0 ≡ q) ⊎ ((Q < 0) × (uses 0 ≡ q)) → ⊥
    none (inl e) = omega arith
    none (inr e) = omega (arith, e.0)

-- ---- a use word changes

own_at : (Q : ℕ) (uses : ℕ → ℕ) (q x : ℕ) → Q < x → own Q uses q x ≡ hit (eqb (uses x) q)
unfolding own
own_at Q uses q x h = rw (lt-ltb Q x h)

own_other : (Q : ℕ) (uses : ℕ → ℕ) (q n v x : ℕ) → x ≢ n → own Q (put uses n v) q x ≡ own Q uses q x
unfolding own
own_other Q uses q n v x h = rw (put_other uses n v x h)

-- a node of the queue is freed
pub own_freed : (Q : ℕ) (uses : ℕ → ℕ) (q n : ℕ) → 1 ≤ q → Q < n → own Q uses q n ≡ 1 → (x : ℕ)
    → own Q uses q x ≡ cnt x (n ∷ []) + own Q (put uses n 0) q x
own_freed Q uses q n a b h x = by (eqb x n) (same? x n)
  where
    by : (t : Bool) → Same x n t → own Q uses q x ≡ cnt x (n ∷ []) + own Q (put uses n 0) q x
    by true (same e) = rw e
        (let k : own Q (put uses n 0) q n ≡ 0 =
        rw (own_at Q (put uses n 0) q n b, put_same uses n 0, ne_eqb 0 q (omega arith)) in simp counts (omega arith))
    by false (apart e) = rw (own_other Q uses q n 0 x e) (rw (cnt_cons, ne_eqb x n e) (omega (arith, cnt_nil x)))

-- a free node is handed to the queue
pub own_begun : (Q : ℕ) (uses : ℕ → ℕ) (q n : ℕ) → 1 ≤ q → Q < n → uses n ≡ 0 → (x : ℕ)
    → own Q (put uses n q) q x ≡ cnt x (n ∷ []) + own Q uses q x
own_begun Q uses q n a b h x = by (eqb x n) (same? x n)
  where
    by : (t : Bool) → Same x n t → own Q (put uses n q) q x ≡ cnt x (n ∷ []) + own Q uses q x
    by true (same e) = rw e
        (let k : own Q (put uses n q) q n ≡ 1 = rw (own_at Q (put uses n q) q n b, put_same uses n q, eqb_self q) in
        let j : own Q uses q n ≡ 0 = rw (own_at Q uses q n b, h, ne_eqb 0 q (omega arith)) in simp counts (omega arith))
    by false (apart e) = rw (own_other Q uses q n q x e) (rw (cnt_cons, ne_eqb x n e) (omega (arith, cnt_nil x)))
