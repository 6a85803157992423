-- A number that stands in a list: at a place of it, in one of two lists joined, apart from what does not stand there.
use Prim.Native.Nat.{ℕ, zero, suc, ◌+◌, ◌<◌}
use mathlib.Core.Path.{◌≡◌, refl, ap}
use mathlib.Core.Logic.{◌≢◌, ◌⊎◌, inl, inr}
use mathlib.Core.Bool.{Bool, true, false}
use mathlib.Core.List.{List, [], ◌∷◌, ◌++◌}
use native.Mathlib.Omega.{arith}
use lib.Dec.{eqb}
use Rattle.lists.specs.Count.{Same, same, apart, same?, hit, cnt, cnt_append, cnt_cons, cnt_nil, counts}
use Rattle.chains.specs.Member.{Last, Place}

pub place : (c : ℕ) (xs : List ℕ) → 0 < cnt c xs → Place c xs
place c [] h = absurd (omega (arith, cnt_nil c))
place c (y ∷ ys) h = by (eqb c y) (same? c y) (rw cnt_cons at h) (place c ys)
  where
    push : Place c ys → Place c (y ∷ ys)
    push r = record { pre = y ∷ r.pre; post = r.post; whole = ap (λ t. y ∷ t) r.whole }

    by : (b : Bool) → Same c y b → 0 < hit b + cnt c ys → (0 < cnt c ys → Place c ys) → Place c (y ∷ ys)
    by true (same e) k ih = record { pre = []; post = ys; whole = rw e }
    by false (apart e) k ih = push (ih (omega arith))

-- c stands in one of two
pub either : (c : ℕ) (xs ys : List ℕ) → 0 < cnt c (xs ++ ys) → (0 < cnt c xs) ⊎ (0 < cnt c ys)
either c xs ys h = by (cnt c xs) refl
  where
    by : (k : ℕ) → cnt c xs ≡ k → (0 < cnt c xs) ⊎ (0 < cnt c ys)
    by zero e = inr (omega (arith, cnt_append c xs ys))
    by (suc k) e = inl (omega arith)

-- two numbers of which only one stands in xs are two
pub differ : {a b : ℕ} (xs : List ℕ) → 0 < cnt a xs → cnt b xs ≡ 0 → a ≢ b
differ xs h z e = let k : 0 < cnt _ xs = rw e at h in omega arith

-- a list of one or more has a last
pub last_of : (y : ℕ) (ys : List ℕ) → (c : ℕ) × Last c (y ∷ ys)
last_of y [] = (y, ([], refl))
last_of y (z ∷ ys) = let r = last_of z ys in (r.0, (y ∷ r.1.0, ap (λ t. y ∷ t) r.1.1))

pub last_in : (c : ℕ) (xs : List ℕ) → Last c xs → 0 < cnt c xs
last_in c xs e = rw e.1 (simp counts (omega arith))
