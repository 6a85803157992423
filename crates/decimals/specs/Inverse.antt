-- Reading a field and writing one are inverse: `field_reads` of proofs/ReadBack and `field_written`.
use Rattle.std.specs.Prelude.{ℕ, zero, suc, ◌+◌, ◌-◌, ◌*◌, ◌/◌, ◌%◌, ◌≤◌, ◌<◌, ◌≡◌, refl, ◌⊎◌, List, [], ◌∷◌, ◌++◌, Bool, true, false, cond, length, drop, ltb, Some}
use Rattle.std.proofs.Common.{sym, ap, ◌∙◌, inl, inr, append_assoc, arith, add-one, lt-ltb, le-ltb, le-leb, eq-eqb}
use Rattle.std.proofs.lemmas.Bool.{cases_lt}
use Rattle.decimals.specs.Decimals.{width_of, last_digits, digits_of, field_of, is_digit, with_digit, goes_on, rest_in, field_in, field_at}
use Rattle.decimals.specs.Laws.{digits_one, length_field, Digit}

-- two tests that hold and fail together are the same
same_test : (a b c d : ℕ) → (a < b → c < d) → (b ≤ a → d ≤ c) → ltb a b ≡ ltb c d
same_test a b c d f g = by (cases_lt a b)
  where
    by : (a < b) ⊎ (b ≤ a) → ltb a b ≡ ltb c d
    by (inl h) = lt-ltb a b h ∙ sym (lt-ltb c d (f h))
    by (inr h) = le-ltb a b h ∙ sym (le-ltb c d (g h))

-- one more digit is one more place
width_more : (v w : ℕ) → 0 < v → v * 10 ≤ w → w ≤ v * 10 + 9 → w ≤ 65535 → width_of w ≡ suc (width_of v)
unfolding width_of
width_more v w p l h top =
    let two = same_test w 100 v 10 (λ k. omega arith) (λ k. omega arith) in
    let three = same_test w 1000 v 100 (λ k. omega arith) (λ k. omega arith) in
    let four = same_test w 10000 v 1000 (λ k. omega arith) (λ k. omega arith) in
    simp (le-ltb w 10 (omega arith), two, three, four, lt-ltb v 10000 (omega arith)) (by (ltb v 10) (ltb v 100) (ltb v 1000))
  where
    by : (a b c : Bool) → cond a 2 (cond b 3 (cond c 4 5)) ≡ suc (cond a 1 (cond b 2 (cond c 3 4)))
    by true b c = refl
    by false true c = refl
    by false false true = refl
    by false false false = refl

pub digits_more : (v b : ℕ) → Digit v b → digits_of (with_digit v b) ≡ digits_of v ++ (b ∷ [])
unfolding digits_of last_digits
digits_more v b d =
    let q : with_digit v b / 10 ≡ v = omega (arith, d) in
    let r : 48 + with_digit v b % 10 ≡ b = omega (arith, d) in
    rw (width_more v (with_digit v b) d.after (omega (arith, d)) (omega (arith, d)) d.fits, q, r)

-- what a field that was read says of the bytes at its place
pub record Field (n end at next : ℕ) (s t : List ℕ) : Type 0 where
  pub small : n ≤ 65535
  pub on : at < next
  pub is : s ≡ field_of n end ++ t

-- the digits of a number are read as that number
abbrev Run : ℕ → ℕ → ℕ → List ℕ → Type 0
Run end at n t = field_in end at (digits_of n ++ t) ≡ rest_in end n (at + width_of n) t

run_one : (end at n : ℕ) (t : List ℕ) → n < 10 → Run end at n t
unfolding field_in is_digit width_of
run_one end at n t h =
    let o : 48 + n - 48 ≡ n = omega arith in
    rw (digits_one n h) (simp (le-leb 48 (48 + n) (omega arith), le-leb (48 + n) 57 (omega arith), lt-ltb n 10 h, o, add-one))

run_more : (end at v b : ℕ) (t : List ℕ) → Digit v b → Run end at v (b ∷ t) → Run end at (with_digit v b) t
unfolding rest_in goes_on is_digit
run_more end at v b t d ih =
    let w : width_of (with_digit v b) ≡ suc (width_of v) = width_more v (with_digit v b) d.after (omega arith) (omega arith) d.fits in
    let o : suc (at + width_of v) ≡ at + width_of (with_digit v b) = omega arith in
    let low = le-leb 48 b d.low in
    let high = le-leb b 57 d.high in
    let fits = le-leb (with_digit v b) 65535 d.fits in
    rw (digits_more v b d) (rw append_assoc (ih ∙ simp (low, high, lt-ltb 0 v d.after, fits, o)))

field_run : (k end at n : ℕ) (t : List ℕ) → n ≤ k → n ≤ 65535 → Run end at n t
field_run zero end at n t h top = run_one end at n t (omega arith)
field_run (suc k) end at n t h top = by (cases_lt n 10) (field_run k end at (n / 10) ((48 + n % 10) ∷ t))
  where
    by : (n < 10) ⊎ (10 ≤ n) → (n / 10 ≤ k → n / 10 ≤ 65535 → Run end at (n / 10) ((48 + n % 10) ∷ t)) → Run end at n t
    by (inl q) ih = run_one end at n t q
    by (inr q) ih =
        let e : with_digit (n / 10) (48 + n % 10) ≡ n = omega arith in
        let d : Digit (n / 10) (48 + n % 10) = record { low = omega arith; high = omega arith; after = omega arith; fits = omega arith } in
        rw e at (run_more end at (n / 10) (48 + n % 10) t d (ih (omega arith) (omega arith)))

-- a number's digits and the byte that ends it are read as that field
pub field_written : (end : ℕ) (text rest : List ℕ) (at n : ℕ) → n ≤ 65535 → is_digit end ≡ false → drop at text ≡ field_of n end ++ rest
    → field_at end text at ≡ Some (n, at + length (field_of n end))
unfolding field_at rest_in goes_on field_of
field_written end text rest at n top d e =
    let ends : rest_in end n (at + width_of n) (end ∷ rest) ≡ Some (n, suc (at + width_of n)) = simp (d, eq-eqb end end refl) in
    let l : suc (at + width_of n) ≡ at + length (field_of n end) = omega (arith, length_field n end) in
    rw e (rw append_assoc (field_run n end at n (end ∷ rest) (omega arith) top ∙ ends ∙ ap (λ (k : ℕ). Some (n, k)) l))
