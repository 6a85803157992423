-- A list copied element by element.
use Rattle.std.specs.Prelude.{ℕ, ◌+◌, ◌≤◌, ◌<◌, ◌≡◌, List, [], ◌∷◌, ◌++◌, length, take, set, get_or}
use Rattle.std.proofs.Common.{sym, ap, ◌∙◌, arith, add-one, take-suc, take-suc-set, take_all}

pub copy_more : (from to : List ℕ) (i : ℕ) → i < length from → i < length to → take i to ≡ take i from
    → take (i + 1) (set to i (get_or from i 0)) ≡ take (i + 1) from
copy_more from to i h k e =
    let x : ℕ = get_or from i 0 in
    rw add-one (take-suc-set to i x k ∙ ap (λ (r : List ℕ). r ++ (x ∷ [])) e ∙ sym (take-suc from i 0 h))

pub copy_ends : (from to : List ℕ) (i : ℕ) → length from ≤ i → length to ≡ length from → take i to ≡ take i from → to ≡ from
copy_ends from to i h k e = sym (take_all i to (omega arith)) ∙ e ∙ take_all i from h
