-- What rests on where a field ends: no field stands at the end of a text, and what is read was written.
use Rattle.std.specs.Prelude.{ℕ, suc, ◌+◌, ◌-◌, ◌≤◌, ◌<◌, ◌≡◌, refl, List, [], ◌∷◌, ◌++◌, Bool, true, false, cond, length, drop, eqb, Some, None}
use Rattle.std.proofs.Common.{sym, ap, ◌∙◌, append_assoc, arith, drop_of_length-le, drop-drop, eqb-true}
use Rattle.std.proofs.lemmas.Bool.Decides.{nat_tests}
use Rattle.std.proofs.lemmas.Option.{some_pair_parts}
use Rattle.decimals.specs.Decimals.{digits_of, field_of, is_digit, with_digit, goes_on, rest_in, rest_of, field_in, field_at}
use Rattle.decimals.specs.Laws.{rest_cons, field_cons, field_none, digit_is, digits_one, goes_on_is}
use Rattle.decimals.specs.Inverse.{digits_more, Field}

pub rest_none : (end : ℕ) (text : List ℕ) (n at : ℕ) → length text ≤ at → rest_of end text n at ≡ None
unfolding rest_of rest_in
rest_none end text n at h = rw (drop_of_length-le text {i = at} h)

-- what the reading of numbers goes by
pub ruleset reads = (rest_cons, rest_none, goes_on_is, field_cons, field_none, digit_is, nat_tests)

-- the bytes after a place are what the bytes after its first are
drop_on : (at next b : ℕ) (s : List ℕ) → suc at < next → drop (next - at) (b ∷ s) ≡ drop (next - suc at) s
drop_on at next b s h = let e : next - at ≡ suc (next - suc at) = omega arith in rw e

rest_reads : (end v at n next : ℕ) (s : List ℕ) → v ≤ 65535 → rest_in end v at s ≡ Some (n, next)
    → Field n end at next (digits_of v ++ s) (drop (next - at) s)
unfolding rest_in field_of
rest_reads end v at n next [] small e = cc
rest_reads end v at n next (b ∷ s) small e =
    by (goes_on v b) refl (eqb b end) refl e (rest_reads end (with_digit v b) (suc at) n next s)
  where
    by : (g : Bool) → goes_on v b ≡ g → (t : Bool) → eqb b end ≡ t
        → cond g (rest_in end (with_digit v b) (suc at) s) (cond t (Some (v, suc at)) None) ≡ Some (n, next)
        → (with_digit v b ≤ 65535 → rest_in end (with_digit v b) (suc at) s ≡ Some (n, next)
        → Field n end (suc at) next (digits_of (with_digit v b) ++ s) (drop (next - suc at) s))
        → Field n end at next (digits_of v ++ (b ∷ s)) (drop (next - at) (b ∷ s))
    by true g t f h ih =
        let d = goes_on_is v b g in
        let r = ih d.fits h in
        record {
          small = r.small;
          on = omega arith;
          is =
              sym (append_assoc (digits_of v) (b ∷ []) s)
              ∙ ap (λ (l : List ℕ). l ++ s) (sym (digits_more v b d))
              ∙ r.is
              ∙ ap (λ (l : List ℕ). field_of n end ++ l) (sym (drop_on at next b s r.on));
        }
    by false g true f h ih =
        let (m, k) = some_pair_parts v n (suc at) next h in
        let e : b ≡ end = eqb-true b end f in
        let o : next - at ≡ 1 = omega arith in
        record { small = omega arith; on = omega arith; is = rw (o, m, e) (sym (append_assoc (digits_of n) (end ∷ []) s)) }
    by false g false f h ih = cc

field_in_reads : (end at n next : ℕ) (s : List ℕ) → field_in end at s ≡ Some (n, next) → Field n end at next s (drop (next - at) s)
unfolding field_in
field_in_reads end at n next [] e = cc
field_in_reads end at n next (b ∷ s) e = by (is_digit b) refl e
  where
    by : (g : Bool) → is_digit b ≡ g → cond g (rest_in end (b - 48) (suc at) s) None ≡ Some (n, next)
        → Field n end at next (b ∷ s) (drop (next - at) (b ∷ s))
    by true g h =
        let d = digit_is b g in
        let r = rest_reads end (b - 48) (suc at) n next s (omega arith) h in
        let one : digits_of (b - 48) ≡ b ∷ [] = digits_one (b - 48) (omega arith) ∙ ap (λ (x : ℕ). x ∷ []) (omega arith) in
        record {
          small = r.small;
          on = omega arith;
          is =
              ap (λ (l : List ℕ). l ++ s) (sym one)
              ∙ r.is
              ∙ ap (λ (l : List ℕ). field_of n end ++ l) (sym (drop_on at next b s r.on));
        }
    by false g h = cc

-- a field that is read is the number's digits and the byte that ends it
pub field_reads : (end : ℕ) (text : List ℕ) (at n next : ℕ) → field_at end text at ≡ Some (n, next)
    → Field n end at next (drop at text) (drop next text)
unfolding field_at
field_reads end text at n next e =
    let r = field_in_reads end at n next (drop at text) e in
    let o : at + (next - at) ≡ next = omega arith in
    record { small = r.small; on = r.on; is = r.is ∙ rw (drop-drop, o) }
