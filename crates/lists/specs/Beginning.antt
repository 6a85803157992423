-- Which list is a beginning of which, and a list with one number left out.
use Rattle.std.specs.Prelude.{ℕ, ◌≡◌, refl, Bool, true, false, cond, List, [], ◌∷◌, ◌++◌, eqb}
use Rattle.std.proofs.Common.{sym, ap, ◌∙◌, append_assoc, append-nil, arith}
use Rattle.lists.specs.Count.{cnt, counts}

-- xs is a beginning of ys
abbrev pub Beginning : List ℕ → List ℕ → Type 0
Beginning xs ys = (rest : List ℕ) × (xs ++ rest ≡ ys)

-- a list with every q in it left out
unfoldable pub without : ℕ → List ℕ → List ℕ
without q [] = []
without q (x ∷ xs) = cond (eqb x q) (without q xs) (x ∷ without q xs)

-- ---- beginnings

pub begins_same : (xs : List ℕ) → Beginning xs xs
begins_same xs = ([], append-nil xs)

pub begins_nil : (xs : List ℕ) → Beginning [] xs
begins_nil xs = (xs, refl)

pub begins_trans : (xs ys zs : List ℕ) → Beginning xs ys → Beginning ys zs → Beginning xs zs
begins_trans xs ys zs p r = (p.0 ++ r.0, sym (append_assoc xs p.0 r.0) ∙ ap (λ (l : List ℕ). l ++ r.0) p.1 ∙ r.1)

-- the same in front of both
pub begins_after : (pre xs ys : List ℕ) → Beginning xs ys → Beginning (pre ++ xs) (pre ++ ys)
begins_after pre xs ys p = (p.0, append_assoc pre xs p.0 ∙ ap (λ (l : List ℕ). pre ++ l) p.1)

-- more behind
pub begins_more : (xs ys : List ℕ) → Beginning xs (xs ++ ys)
begins_more xs ys = (ys, refl)

-- a beginning that holds each number as often as the whole is the whole
pub begins_whole : (xs ys : List ℕ) → Beginning xs ys → ((n : ℕ) → cnt n ys ≡ cnt n xs) → xs ≡ ys
begins_whole xs ys b h = by b.0 b.1
  where
    by : (rest : List ℕ) → xs ++ rest ≡ ys → xs ≡ ys
    by [] e = sym (append-nil xs) ∙ e
    by (r ∷ rest) e =
        let more = simp counts at (ap (cnt r) e) in
        absurd (omega (arith, h r))

-- ---- one number left out

pub without_append : (q : ℕ) (xs ys : List ℕ) → without q (xs ++ ys) ≡ without q xs ++ without q ys
unfolding without
without_append q [] ys = refl
without_append q (x ∷ xs) ys = by (eqb x q) (without_append q xs ys)
  where
    by : (b : Bool) → without q (xs ++ ys) ≡ without q xs ++ without q ys
        → cond b (without q (xs ++ ys)) (x ∷ without q (xs ++ ys)) ≡ cond b (without q xs) (x ∷ without q xs) ++ without q ys
    by true e = e
    by false e = ap (λ (l : List ℕ). x ∷ l) e

pub without_self : (q : ℕ) (xs : List ℕ) → without q (q ∷ xs) ≡ without q xs
unfolding without
without_self q xs = simp counts
