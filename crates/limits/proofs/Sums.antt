-- Sums over the levels, and how they move with one level.
use Prim.Native.Nat.{ℕ, zero, suc, ◌+◌, ◌≤◌, ◌<◌}
use mathlib.Core.Path.{◌≡◌, refl, ap}
use mathlib.Core.Logic.{◌≢◌}
use mathlib.Core.Bool.{Bool, true, false}
use native.Mathlib.Omega.{arith}
use lib.Dec.{eqb}
use Rattle.lists.specs.Count.{Same, same, apart, same?}

-- f 0 to f (n - 1) together
unfoldable pub total : (ℕ → ℕ) → ℕ → ℕ
total f zero = 0
total f (suc n) = f n + total f n

total_same : (f g : ℕ → ℕ) (n : ℕ) → ((j : ℕ) → j < n → g j ≡ f j) → total g n ≡ total f n
unfolding total
total_same f g zero h = refl
total_same f g (suc n) h = omega (arith, h n (omega arith), total_same f g n (λ j a. h j (omega arith)))

-- f and g differ at l alone
pub total_but : (f g : ℕ → ℕ) (l n : ℕ) → l < n → ((j : ℕ) → j ≢ l → g j ≡ f j) → total g n + f l ≡ total f n + g l
unfolding total
total_but f g l zero low h = absurd (omega arith)
total_but f g l (suc n) low h = by (eqb n l) (same? n l) (total_but f g l n)
  where
    by : (b : Bool) → Same n l b → (l < n → ((j : ℕ) → j ≢ l → g j ≡ f j) → total g n + f l ≡ total f n + g l)
        → g n + total g n + f l ≡ f n + total f n + g l
    by true (same e) ih =
        let rest = total_same f g n (λ j a. h j (λ z. omega arith)) in
        omega (arith, ap f e, ap g e)
    by false (apart e) ih = omega (arith, ih (omega arith) h, h n e)

pub total_part : (f : ℕ → ℕ) (l n : ℕ) → l < n → f l ≤ total f n
unfolding total
total_part f l zero low = absurd (omega arith)
total_part f l (suc n) low = by (eqb n l) (same? n l) (total_part f l n)
  where
    by : (b : Bool) → Same n l b → (l < n → f l ≤ total f n) → f l ≤ f n + total f n
    by true (same e) ih = omega (arith, ap f e)
    by false (apart e) ih = omega (arith, ih (omega arith))

pub total_none : (f : ℕ → ℕ) (n : ℕ) → ((j : ℕ) → f j ≡ 0) → total f n ≡ 0
unfolding total
total_none f zero h = refl
total_none f (suc n) h = omega (arith, h n, total_none f n h)
