-- How often a number stands in a list. Each node once, nothing lost and nothing doubled are equations between such counts.
use Rattle.std.specs.Prelude.{ℕ, ◌+◌, ◌≤◌, ◌≡◌, refl, ◌≢◌, Bool, true, false, List, [], ◌∷◌, ◌++◌, eqb}
use Rattle.std.proofs.Common.{sym, zero-add, arith, eqb-true, eq-eqb}
use Rattle.std.proofs.lemmas.Bool.{eqb-false}

-- a test on two numbers, with what it tells
pub data Same (a b : ℕ) : Bool → Type 0 where
  same : a ≡ b → Same a b true
  apart : a ≢ b → Same a b false

pub same? : (a b : ℕ) → Same a b (eqb a b)
same? a b = go (eqb a b) refl
  where
    go : (t : Bool) → eqb a b ≡ t → Same a b t
    go true e = same (eqb-true a b e)
    go false e = apart (eqb-false a b e)

-- 1 for yes, 0 for no
abbrev pub hit : Bool → ℕ
hit true = 1
hit false = 0

-- how often x stands in a list
unfoldable pub cnt : ℕ → List ℕ → ℕ
cnt x [] = 0
cnt x (y ∷ ys) = hit (eqb x y) + cnt x ys

pub cnt_nil : (x : ℕ) → cnt x [] ≡ 0
unfolding cnt
cnt_nil x = refl

pub cnt_cons : (x y : ℕ) (ys : List ℕ) → cnt x (y ∷ ys) ≡ hit (eqb x y) + cnt x ys
unfolding cnt
cnt_cons x y ys = refl

pub cnt_append : (x : ℕ) (s t : List ℕ) → cnt x (s ++ t) ≡ cnt x s + cnt x t
unfolding cnt
cnt_append x [] t = sym (zero-add _)
cnt_append x (y ∷ s) t = let ih = cnt_append x s t in omega arith

pub eqb_self : (x : ℕ) → eqb x x ≡ true
eqb_self x = eq-eqb x x refl

pub ruleset counts = (cnt_append, cnt_cons, cnt_nil, eqb_self)

pub cnt_self : (x : ℕ) (ys : List ℕ) → 1 ≤ cnt x (x ∷ ys)
cnt_self x ys = simp counts (omega arith)
