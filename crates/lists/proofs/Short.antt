-- How long lists are: with one number left out, and where they hold each of the numbers 1..n once at most.
use Rattle.std.specs.Prelude.{ℕ, zero, suc, ◌+◌, ◌≤◌, ◌<◌, ◌≡◌, Bool, true, false, cond, List, [], ◌∷◌, eqb, length}
use Rattle.std.proofs.Common.{sym, arith, eq-eqb, ne_eqb}
use Rattle.lists.specs.Count.{Same, same, apart, same?, cnt, cnt_cons, cnt_self, counts}
use Rattle.lists.specs.Beginning.{without}
use Rattle.lists.proofs.Without.{cnt_without}

pub length_without : (n : ℕ) (xs : List ℕ) → length xs ≡ length (without n xs) + cnt n xs
unfolding without
length_without n [] = simp counts
length_without n (x ∷ xs) = by (eqb x n) (same? x n) (length_without n xs)
  where
    by : (b : Bool) → Same x n b → length xs ≡ length (without n xs) + cnt n xs
        → suc (length xs) ≡ length (cond b (without n xs) (x ∷ without n xs)) + cnt n (x ∷ xs)
    by true (same e) h = rw (cnt_cons n x xs, eq-eqb n x (sym e)) (omega arith)
    by false (apart e) h = rw (cnt_cons n x xs, ne_eqb n x (λ z. e (sym z))) (omega arith)

pub once_short : (n : ℕ) (xs : List ℕ) → ((x : ℕ) → cnt x xs ≤ 1) → ((x : ℕ) → 0 < cnt x xs → (1 ≤ x) × (x ≤ n)) → length xs ≤ n
once_short zero [] once low = omega arith
once_short zero (x ∷ xs) once low = absurd (omega (arith, low x (cnt_self x xs)))
once_short (suc n) xs once low =
    let fewer =
    once_short n (without (suc n) xs) (λ x. less x (eqb x (suc n)) (cnt_without x (suc n) xs))
    (λ x h. lower x h (eqb x (suc n)) (same? x (suc n)) (cnt_without x (suc n) xs))
    in
    omega (arith, length_without (suc n) xs, once (suc n))
  where
    less : (x : ℕ) (b : Bool) → cnt x (without (suc n) xs) ≡ cond b 0 (cnt x xs) → cnt x (without (suc n) xs) ≤ 1
    less x true e = omega arith
    less x false e = omega (arith, once x)

    lower : (x : ℕ) → 0 < cnt x (without (suc n) xs) → (b : Bool) → Same x (suc n) b
        → cnt x (without (suc n) xs) ≡ cond b 0 (cnt x xs) → (1 ≤ x) × (x ≤ n)
    lower x h true (same z) e = absurd (omega arith)
    lower x h false (apart z) e = omega (arith, low x (omega arith))
