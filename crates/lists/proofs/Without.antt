-- How often a number stands in a list with one number left out.
use Rattle.std.specs.Prelude.{ℕ, ◌≡◌, refl, Bool, true, false, cond, List, [], ◌∷◌, eqb}
use Rattle.std.proofs.Common.{sym, ◌∙◌, arith, ne_eqb}
use Rattle.lists.specs.Count.{Same, same, apart, same?, cnt, cnt_cons, counts}
use Rattle.lists.specs.Beginning.{without}

-- q does not stand in it, and others as often as before
pub cnt_without : (x q : ℕ) (xs : List ℕ) → cnt x (without q xs) ≡ cond (eqb x q) 0 (cnt x xs)
unfolding without
cnt_without x q [] = by (eqb x q)
  where
    by : (b : Bool) → cnt x [] ≡ cond b 0 (cnt x [])
    by true = simp counts
    by false = refl
cnt_without x q (y ∷ ys) = by (eqb x q) (same? x q) (eqb y q) (same? y q) (cnt_without x q ys)
  where
    by : (a : Bool) → Same x q a → (b : Bool) → Same y q b → cnt x (without q ys) ≡ cond a 0 (cnt x ys)
        → cnt x (cond b (without q ys) (y ∷ without q ys)) ≡ cond a 0 (cnt x (y ∷ ys))
    by true (same e) true (same f) h = h
    by true (same e) false (apart f) h = rw cnt_cons (rw (ne_eqb x y (λ (g : x ≡ y). f (sym g ∙ e))) (omega arith))
    by false (apart e) true (same f) h = rw (cnt_cons x y ys, ne_eqb x y (λ (g : x ≡ y). e (g ∙ f))) (omega arith)
    by false (apart e) false (apart f) h = simp counts (omega arith)
