-- What the proofs of the counting cite.
use Prim.Native.Nat.{ℕ, zero, suc, ◌+◌, ◌-◌, ◌*◌, ◌≤◌, ◌<◌}
use Rattle.std.specs.Prelude.{◌≡◌, List, [], ◌∷◌, Bool, Option, Some, None, MatchOption, cond, length, take, drop, get_or, set, replicate, eqb, ltb}
use Rattle.std.specs.List.{position_or_len, range_with_len}
use borrow.Rule.Slice.PartMut.{put_mid}
use lib.Pointwise.{pointwise}
use Rattle.std.proofs.Math.Path.{refl, sym, ap}
use Rattle.std.proofs.Common.{◌∙◌, length-take-le, append_assoc, drop-cons, drop-drop, ltb-true, ltb-false}
use Rattle.std.proofs.lemmas.List.Edits.{sets, sets-eq}
use Rattle.std.proofs.lemmas.List.FromFn.{length-range_with_len}
use Rattle.std.proofs.Math.Bool.{true, false, and-true}
use native.Mathlib.Omega.{arith}
use borrow.Author.Tests.{le-leb, lt-leb, lt-ltb, le-ltb, eq-eqb, ne_eqb}
use Rattle.words.specs.declared.Sizes.{Sizes}
use Rattle.words.specs.Layout.{limits, words}
use Rattle.fresh.specs.Fresh.{fresh_of}
use Rattle.outcomes.specs.Notes.{note, over}
use Rattle.outcomes.specs.NotesLaws.{note_all}
use Rattle.outcomes.specs.Outcomes.{outcome_from, outcome_of}
use Rattle.outcomes.specs.OutcomesLaws.{fresh_is, outcome_take}
use Rattle.outcomes.specs.Tallies.{
  Key,
  key_of,
  known_in,
  has_key,
  place_from,
  add_one,
  add_entry,
  count_at,
  counted,
  counted_outcome,
  tallied,
}

-- ---- a key

next_word : (ts : List ℕ) (at j : ℕ) → j ≡ at + 1 → at < length ts → drop at ts ≡ get_or ts at 0 ∷ drop j ts
next_word ts at j e h = let f : suc at ≡ j = omega arith in drop-cons ts at 0 h ∙ ap (λ (k : ℕ). get_or ts at 0 ∷ drop k ts) f

-- four words of a list, one by one
words_at : (ts : List ℕ) (at : ℕ) → at + 4 ≤ length ts
    → take 4 (drop at ts) ≡ get_or ts at 0 ∷ get_or ts (at + 1) 0 ∷ get_or ts (at + 2) 0 ∷ get_or ts (at + 3) 0 ∷ []
words_at ts at h =
    rw (
      next_word ts at (at + 1) refl (omega arith),
      next_word ts (at + 1) (at + 2) (omega arith) (omega arith),
      next_word ts (at + 2) (at + 3) (omega arith) (omega arith),
      next_word ts (at + 3) (at + 4) (omega arith) (omega arith),
    )
    refl

-- an outcome's four words, compared with a key's
pub key_compared : (ts : List ℕ) (i n : ℕ) (key : Key) → n ≡ 4 → 3 + 5 * i + 4 ≤ length ts → length key ≡ 4
    → pointwise eqb (take n (drop (3 + 5 * i) ts)) key ≡ has_key ts i key
unfolding has_key
key_compared ts i n [] e h l = absurd (omega arith)
key_compared ts i n (a ∷ []) e h l = absurd (omega arith)
key_compared ts i n (a ∷ b ∷ []) e h l = absurd (omega arith)
key_compared ts i n (a ∷ b ∷ c ∷ []) e h l = absurd (omega arith)
key_compared ts i n (a ∷ b ∷ c ∷ d ∷ []) e h l = rw (e, words_at ts (3 + 5 * i) h, and-true) refl
key_compared ts i n (a ∷ b ∷ c ∷ d ∷ x ∷ xs) e h l = absurd (omega arith)

module _ (ts : List ℕ) (i : ℕ) (key : Key) where
  -- word w of the outcome's key, and of the other
  abbrev word : ℕ → ℕ
  word w = get_or ts (3 + 5 * i + w) 0

  abbrev own : ℕ → ℕ
  own w = get_or key w 0

  pub key_last : get_or ts (3 + 5 * i) 0 ≡ own 0 → word 1 ≡ own 1 → word 2 ≡ own 2 → eqb (word 3) (own 3) ≡ has_key ts i key
  unfolding has_key
  key_last p q r = rw (eq-eqb _ (own 0) p, eq-eqb _ (own 1) q, eq-eqb _ (own 2) r) refl

  pub key_third : get_or ts (3 + 5 * i) 0 ≡ own 0 → word 1 ≡ own 1 → (word 2 ≡ own 2 → ⊥) → false ≡ has_key ts i key
  unfolding has_key
  key_third p q r = rw (eq-eqb _ (own 0) p, eq-eqb _ (own 1) q, ne_eqb _ (own 2) r) refl

  pub key_second : get_or ts (3 + 5 * i) 0 ≡ own 0 → (word 1 ≡ own 1 → ⊥) → false ≡ has_key ts i key
  unfolding has_key
  key_second p q = rw (eq-eqb _ (own 0) p, ne_eqb _ (own 1) q) refl

  pub key_first : (get_or ts (3 + 5 * i) 0 ≡ own 0 → ⊥) → false ≡ has_key ts i key
  unfolding has_key
  key_first p = rw (ne_eqb _ (own 0) p) refl

-- the four words behind a place, written one by one
pub words_put : (ts key : List ℕ) (at n : ℕ) → n ≡ 4 → at + 5 ≤ length ts → length key ≡ 4
    → put_mid (at + 1) n ts key
    ≡ set (set (set (set ts (at + 1) (get_or key 0 0)) (at + 2) (get_or key 1 0)) (at + 3) (get_or key 2 0)) (at + 4) (get_or key 3 0)
words_put ts [] at n e h l = absurd (omega arith)
words_put ts (a ∷ []) at n e h l = absurd (omega arith)
words_put ts (a ∷ b ∷ []) at n e h l = absurd (omega arith)
words_put ts (a ∷ b ∷ c ∷ []) at n e h l = absurd (omega arith)
words_put ts (a ∷ b ∷ c ∷ d ∷ []) at n e h l =
    let e2 : suc (at + 1) ≡ at + 2 = omega arith in
    let e3 : suc (at + 2) ≡ at + 3 = omega arith in
    let e4 : suc (at + 3) ≡ at + 4 = omega arith in
    let all : sets ts (at + 1) (a ∷ b ∷ c ∷ d ∷ []) ≡ put_mid (at + 1) 4 ts (a ∷ b ∷ c ∷ d ∷ []) =
    sets-eq (a ∷ b ∷ c ∷ d ∷ []) ts (at + 1) (omega arith) ∙ rw (append_assoc, drop-drop) refl in
    rw e (sym all ∙ rw (e2, e3, e4) refl)
words_put ts (a ∷ b ∷ c ∷ d ∷ x ∷ xs) at n e h l = absurd (omega arith)

-- ---- the place of a key

-- the place of a key is the position of the first outcome that has it
place_is : (ts : List ℕ) (key : Key) (rest i : ℕ)
    → place_from rest ts i key ≡ i + position_or_len (λ j. has_key ts j key) (range_with_len i rest)
unfolding place_from
place_is ts key zero i = omega arith
place_is ts key (suc rest) i = by (has_key ts i key) refl (place_is ts key rest (i + 1))
  where
    has : ℕ → Bool
    has j = has_key ts j key

    by : (b : Bool) → has_key ts i key ≡ b
        → place_from rest ts (i + 1) key ≡ i + 1 + position_or_len has (range_with_len (i + 1) rest)
        → cond (has_key ts i key) i (place_from rest ts (i + 1) key) ≡ i + position_or_len has (range_with_len i (suc rest))
    by true e ih = rw e (omega arith)
    by false e ih = rw e (omega (arith, ih))

-- what is found among the first n outcomes
pub place_found : (ts : List ℕ) (key : Key) (n : ℕ) (r : Option ℕ)
    → r ≡ cond (ltb (position_or_len (λ j. has_key ts j key) (range_with_len 0 n)) (length (range_with_len 0 n)))
    (Some (position_or_len (λ j. has_key ts j key) (range_with_len 0 n))) None
    → MatchOption r (n ≤ place_from n ts 0 key) (λ i. (i ≡ place_from n ts 0 key) × (i < n))
place_found ts key n r e = rw e (by (ltb at (length (range_with_len 0 n))) refl)
  where
    at : ℕ
    at = position_or_len (λ j. has_key ts j key) (range_with_len 0 n)

    by : (b : Bool) → ltb at (length (range_with_len 0 n)) ≡ b
        → MatchOption (cond b (Some at) None) (n ≤ place_from n ts 0 key) (λ i. (i ≡ place_from n ts 0 key) × (i < n))
    by true f = (
      omega (arith, place_is ts key n 0),
      omega (arith, ltb-true at (length (range_with_len 0 n)) f, length-range_with_len 0 n),
    )
    by false f = omega (arith, place_is ts key n 0, ltb-false at (length (range_with_len 0 n)) f, length-range_with_len 0 n)

module _ (n : ℕ) (ts : List ℕ) (key : Key) where
  pub place_here : (i : ℕ) (b : Bool) → i < n → b ≡ has_key ts i key → b ≡ true → place_from (n - i) ts i key ≡ i
  unfolding place_from
  place_here i b h e y =
      let one : n - i ≡ suc (n - (i + 1)) = omega arith in
      let has : has_key ts i key ≡ true = sym e ∙ y in
      rw (one, has) refl

  pub place_on : (i : ℕ) (b : Bool) → i < n → b ≡ has_key ts i key → b ≡ false
      → place_from (n - i) ts i key ≡ place_from (n - (i + 1)) ts (i + 1) key
  unfolding place_from
  place_on i b h e y =
      let one : n - i ≡ suc (n - (i + 1)) = omega arith in
      let has : has_key ts i key ≡ false = sym e ∙ y in
      ap (λ (j : ℕ). place_from j ts i key) one ∙ rw has refl

  pub place_none : (i : ℕ) → n ≤ i → place_from (n - i) ts i key ≡ i
  unfolding place_from
  place_none i h = let none : n - i ≡ 0 = omega arith in rw none refl

  pub place_start : place_from n ts 0 key ≡ place_from (n - 0) ts 0 key
  place_start = let e : n ≡ n - 0 = omega arith in ap (λ (j : ℕ). place_from j ts 0 key) e

-- ---- one schedule more

module _ (ts : List ℕ) (n i : ℕ) (key : Key) (known : n ≡ known_in ts) (place : i ≡ place_from n ts 0 key) where
  count_is : counted ts key ≡ count_at ts n i key
  unfolding counted
  count_is = rw (← known, ← place) refl

  pub count_kept : i < n → counted ts key ≡ add_one ts (2 + 5 * i)
  unfolding count_at
  count_kept h = count_is ∙ rw (lt-ltb i n h) refl

  pub count_new : n ≤ i → n < 1024 → counted ts key ≡ add_entry ts n key
  unfolding count_at
  count_new h l = count_is ∙ rw (le-ltb i n h, lt-ltb n 1024 l) refl

  pub count_other : n ≤ i → 1024 ≤ n → counted ts key ≡ add_one ts 1
  unfolding count_at
  count_other h l = count_is ∙ rw (le-ltb i n h, le-ltb n 1024 l) refl

-- ---- the schedule is counted

-- the first r of the words t are the table's
pub tallied_is : (s : Sizes) (ops : List ℕ) (k : ℕ) (path t ts notes : List ℕ) (r : ℕ) (key : Key) → 5122 ≤ length ts
    → (note (0, replicate 16 0) (outcome_from s.queues ops k path (fresh_of s (take r t)).1)).1 ≡ notes → key ≡ key_of notes
    → (words s ≤ length t → r ≡ words s) → limits s ≡ true → words s ≤ length t → counted ts key ≡ tallied s ops k path ts
unfolding tallied counted_outcome outcome_of
tallied_is s ops k path t ts notes r key m e f w l h =
    let just : r ≡ words s = w h in
    let long : length (take r t) ≡ words s = length-take-le r t (omega arith) ∙ just in
    rw (le-leb 5122 (length ts) m)
    (ap (counted ts)
    (f
    ∙ ap key_of
    (sym e
    ∙ note_all (replicate 16 0) _
    ∙ ap (λ (u : List ℕ). over (replicate 16 0) (outcome_from s.queues ops k path u)) (fresh_is s (take r t) l long))))

pub tallied_short : (s : Sizes) (ops : List ℕ) (k : ℕ) (path ts : List ℕ) → length ts < 5122 → ts ≡ tallied s ops k path ts
unfolding tallied
tallied_short s ops k path ts h = rw (lt-leb 5122 (length ts) h) refl

-- the numbers behind the last steps are not looked at
pub tallied_take : (s : Sizes) (ops : List ℕ) (k : ℕ) (path ts : List ℕ) → tallied s ops k (take (k + 1) path) ts ≡ tallied s ops k path ts
unfolding tallied
tallied_take s ops k path ts = rw (outcome_take s ops k path) refl
