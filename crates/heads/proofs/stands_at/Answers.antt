use Rattle.std.specs.Prelude.{ℕ, ◌+◌, ◌<◌, ◌≤◌, ◌≡◌, refl, List, [], ◌∷◌, ◌⊎◌, length, take, drop, eqb, slice_range, Option, Some, None, MatchOption, unwrap_or}
use Rattle.std.specs.Borrow.{Bor}
use Rattle.std.proofs.Common.{sym, ap, ◌∙◌, arith, drop_of_length-le, inl, inr}
use Rattle.std.specs.Cmp.Lexicographic.{pointwise}
use Rattle.std.proofs.lemmas.Bool.Decides.{nat_tests}
use Rattle.std.proofs.lemmas.Slice.{between_to_end}
use Rattle.heads.specs.Heads.{begins, stands_at}
use Rattle.heads.proofs.stands_at.Goals as goal

-- the bytes from a place on, and none past the end
rest_of : (r : Option (Bor (List ℕ))) (none x : Bor (List ℕ)) (s : List ℕ) (p : ℕ) → x ≡ unwrap_or r none → none.now ≡ []
    → MatchOption r ((length s < p) ⊎ (length s < length s)) (λ x. (p ≤ length s) × (length s ≤ length s) × (x.now ≡ slice_range s p (length s)) × (length x.now + p ≡ length s))
    → x.now ≡ drop p s
rest_of None none x s p e f (inl h) = ap (λ (b : Bor (List ℕ)). b.now) e ∙ f ∙ sym (drop_of_length-le s {i = p} (omega arith))
rest_of None none x s p e f (inr h) = absurd (omega arith)
rest_of (Some y) none x s p e f h = ap (λ (b : Bor (List ℕ)). b.now) e ∙ h.2 ∙ between_to_end s p (length s) (omega arith)

begins_is : (h s : List ℕ) → begins h s ≡ pointwise eqb h (take (length h) s)
unfolding begins
begins_is [] s = refl
begins_is (h ∷ hs) [] = refl
begins_is (h ∷ hs) (b ∷ s) = grind (arith, nat_tests, begins_is hs s)

pub returns : goal.returns
unfolding stands_at
returns c =
    let rest = rest_of c.get.result _ _ c.args.text.now c.args.place c.unwrap_or.ensures refl c.get.ensures.lookup.0 in
    rw (begins_is c.args.head.now, ← rest) c.starts_with.ensures.value
