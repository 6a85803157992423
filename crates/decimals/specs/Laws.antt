-- What the proofs of reading and writing numbers cite.
use Rattle.std.specs.Prelude.{ℕ, zero, suc, ◌+◌, ◌-◌, ◌/◌, ◌%◌, ◌≤◌, ◌<◌, ◌≡◌, refl, List, [], ◌∷◌, Bool, true, false, cond, ◌&&◌, length, set, get_or, ltb, leb, eqb, Some, None}
use Rattle.std.proofs.Common.{ap, ◌∙◌, arith, add-one, sub-one, length-append, drop_of_length-le, drop-cons, ltb-true, leb-true, lt-ltb, le-ltb}
use Rattle.std.proofs.Math.Bool.{and-eq-true_iff}
use Rattle.std.proofs.lemmas.List.Edits.{sets}
use Rattle.std.proofs.lemmas.List.{set_comm}
use Rattle.heads.specs.Laws.{sets_append}
use Rattle.decimals.specs.Decimals.{width_of, last_digits, digits_of, field_of, is_digit, with_digit, goes_on, rest_in, rest_of, field_in, field_at}

-- a store past a run of stores may come first
pub sets_set : (r : List ℕ) (p i a : ℕ) (xs : List ℕ) → p + length xs ≤ i → set (sets r p xs) i a ≡ sets (set r i a) p xs
sets_set r p i a [] h = refl
sets_set r p i a (x ∷ xs) h =
    let h' : suc p + length xs ≤ i = omega arith in
    sets_set (set r p x) (suc p) i a xs h' ∙ ap (λ (l : List ℕ). sets l (suc p) xs) (set_comm r p i x a (omega arith))

pub length_last : (w n : ℕ) → length (last_digits w n) ≡ w
unfolding last_digits
length_last zero n = refl
length_last (suc w) n = rw (length-append, length_last w (n / 10), add-one)

-- the last of the digits may be written first
pub last_first : (r : List ℕ) (p k n : ℕ) → 0 < k
    → sets r p (last_digits k n) ≡ sets (set r (p + (k - 1)) (48 + n % 10)) p (last_digits (k - 1) (n / 10))
unfolding last_digits
last_first r p (suc k) n h =
    let e = length_last k (n / 10) in
    sets_append r p (last_digits k (n / 10)) ((48 + n % 10) ∷ [])
    ∙ sets_set r p (p + length (last_digits k (n / 10))) (48 + n % 10) (last_digits k (n / 10)) (omega arith)
    ∙ rw (e, sub-one) refl
last_first r p zero n h = absurd (omega arith)

pub last_none : (r : List ℕ) (p k n : ℕ) → k ≤ 0 → sets r p (last_digits k n) ≡ r
unfolding last_digits
last_none r p zero n h = refl
last_none r p (suc k) n h = absurd (omega arith)

pub length_digits : (n : ℕ) → length (digits_of n) ≡ width_of n
unfolding digits_of
length_digits n = length_last (width_of n) n

pub length_field : (n end : ℕ) → length (field_of n end) ≡ width_of n + 1
unfolding field_of
length_field n end = simp (length-append, length_digits)

pub digits_one : (n : ℕ) → n < 10 → digits_of n ≡ (48 + n) ∷ []
unfolding digits_of last_digits width_of
digits_one n h = let e : n % 10 ≡ n = omega arith in simp (lt-ltb n 10 h, e)

pub digits_two : (n : ℕ) → 10 ≤ n → n < 100 → digits_of n ≡ (48 + n / 10) ∷ (48 + n % 10) ∷ []
unfolding digits_of last_digits width_of
digits_two n l h = let e : n / 10 % 10 ≡ n / 10 = omega arith in simp (le-ltb n 10 l, lt-ltb n 100 h, e)

-- one more byte of a field's rest
pub rest_cons : (end : ℕ) (text : List ℕ) (n at : ℕ) → at < length text
    → rest_of end text n at
    ≡ cond (goes_on n (get_or text at 0)) (rest_of end text (with_digit n (get_or text at 0)) (at + 1))
    (cond (eqb (get_or text at 0) end) (Some (n, at + 1)) None)
unfolding rest_of rest_in
rest_cons end text n at h = rw (drop-cons text at 0, add-one)

pub record Digit (n b : ℕ) : Type 0 where
  pub low : 48 ≤ b
  pub high : b ≤ 57
  pub after : 0 < n
  pub fits : with_digit n b ≤ 65535

pub record IsDigit (b : ℕ) : Type 0 where
  pub low : 48 ≤ b
  pub high : b ≤ 57

pub digit_is : (b : ℕ) → is_digit b ≡ true → IsDigit b
unfolding is_digit
digit_is b h =
    let two = (and-eq-true_iff (leb 48 b) (leb b 57)).0 h in record { low = leb-true 48 b two.0; high = leb-true b 57 two.1 }

pub goes_on_is : (n b : ℕ) → goes_on n b ≡ true → Digit n b
unfolding goes_on
goes_on_is n b h =
    let three = (and-eq-true_iff (is_digit b && ltb 0 n) (leb (with_digit n b) 65535)).0 h in
    let two = (and-eq-true_iff (is_digit b) (ltb 0 n)).0 three.0 in
    let d = digit_is b two.0 in
    record { low = d.low; high = d.high; after = ltb-true 0 n two.1; fits = leb-true (with_digit n b) 65535 three.1 }

pub field_cons : (end : ℕ) (text : List ℕ) (at : ℕ) → at < length text
    → field_at end text at ≡ cond (is_digit (get_or text at 0)) (rest_of end text (get_or text at 0 - 48) (at + 1)) None
unfolding field_at field_in rest_of
field_cons end text at h = rw (drop-cons text at 0, add-one)

pub field_none : (end : ℕ) (text : List ℕ) (at : ℕ) → length text ≤ at → field_at end text at ≡ None
unfolding field_at field_in
field_none end text at h = rw (drop_of_length-le text {i = at} h)

pub width_top : (n : ℕ) → width_of n ≤ 5
unfolding width_of
width_top n = by (ltb n 10) (ltb n 100) (ltb n 1000) (ltb n 10000)
  where
    by : (a b c d : Bool) → cond a 1 (cond b 2 (cond c 3 (cond d 4 5))) ≤ 5
    by true b c d = omega arith
    by false true c d = omega arith
    by false false true d = omega arith
    by false false false true = omega arith
    by false false false false = omega arith

-- what the writing of numbers goes by
pub ruleset writes = (digits_one, digits_two, length_digits, length_field, last_first, last_none)
