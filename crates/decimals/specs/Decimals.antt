-- Decimal numbers 0 to 65,535 with no leading zero, as bytes; and fields: a number with the byte that ends it.
use Rattle.std.specs.Prelude.{ℕ, zero, suc, ◌+◌, ◌-◌, ◌*◌, ◌/◌, ◌%◌, List, [], ◌∷◌, ◌++◌, Bool, cond, ◌&&◌, drop, ltb, leb, eqb, Option, Some, None}

-- how many digits a number has
unfoldable pub width_of : ℕ → ℕ
width_of n = cond (ltb n 10) 1 (cond (ltb n 100) 2 (cond (ltb n 1000) 3 (cond (ltb n 10000) 4 5)))

-- the last w digits of n
unfoldable pub last_digits : ℕ → ℕ → List ℕ
last_digits zero n = []
last_digits (suc w) n = last_digits w (n / 10) ++ ((48 + n % 10) ∷ [])

-- a number in decimal, with no leading zero
unfoldable pub digits_of : ℕ → List ℕ
digits_of n = last_digits (width_of n) n

unfoldable pub field_of : ℕ → ℕ → List ℕ
field_of n end = digits_of n ++ (end ∷ [])

-- the byte is one of 0 to 9
unfoldable pub is_digit : ℕ → Bool
is_digit b = leb 48 b && leb b 57

-- v with one more digit
abbrev pub with_digit : ℕ → ℕ → ℕ
with_digit v b = v * 10 + (b - 48)

-- the number v goes on with the byte b: a digit, not after a leading zero, and at most 65,535 together
unfoldable pub goes_on : ℕ → ℕ → Bool
goes_on v b = is_digit b && ltb 0 v && leb (with_digit v b) 65535

-- what a field is whose digits make v so far and whose other bytes, from place `at` on, are these
unfoldable pub rest_in : ℕ → ℕ → ℕ → List ℕ → Option (ℕ × ℕ)
rest_in end v at [] = None
rest_in end v at (b ∷ s) =
    cond (goes_on v b) (rest_in end (with_digit v b) (suc at) s) (cond (eqb b end) (Some (v, suc at)) None)

-- the field at a place: a digit and what goes on with it, up to the byte that ends it
unfoldable pub field_in : ℕ → ℕ → List ℕ → Option (ℕ × ℕ)
field_in end at [] = None
field_in end at (b ∷ s) = cond (is_digit b) (rest_in end (b - 48) (suc at) s) None

unfoldable pub field_at : ℕ → List ℕ → ℕ → Option (ℕ × ℕ)
field_at end text place = field_in end place (drop place text)

unfoldable pub rest_of : ℕ → List ℕ → ℕ → ℕ → Option (ℕ × ℕ)
rest_of end text v place = rest_in end v place (drop place text)
