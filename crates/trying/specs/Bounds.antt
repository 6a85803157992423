-- The number that decimal digits are, one at least: up to 4,294,967,295.
use Rattle.std.specs.Prelude.{ℕ, ◌+◌, ◌-◌, ◌*◌, cond, List, [], ◌∷◌, Option, Some, None, ltb, leb}

-- one digit more
unfoldable pub digit_on : ℕ → ℕ → Option ℕ
digit_on n b =
    cond (ltb b 48) None
    (cond (ltb 57 b) None (cond (leb (10 * n + (b - 48)) 4294967295) (Some (10 * n + (b - 48))) None))

abbrev pub go_on : Option ℕ → (ℕ → Option ℕ) → Option ℕ
go_on (Some n) f = f n
go_on None f = None

-- n, and the digits after it
unfoldable pub number_from : ℕ → List ℕ → Option ℕ
number_from n [] = Some n
number_from n (b ∷ bs) = go_on (digit_on n b) λ m. number_from m bs

unfoldable pub bound_in : List ℕ → Option ℕ
bound_in [] = None
bound_in (b ∷ bs) = number_from 0 (b ∷ bs)
