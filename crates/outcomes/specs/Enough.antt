-- Room that is enough: the lines of any tallies fit into 262,144 bytes, and no more bytes are answered than the room has.
use Prim.Native.Nat.{ℕ, zero, suc, ◌+◌, ◌*◌, ◌/◌, ◌%◌, ◌≤◌, ◌<◌}
use Rattle.std.specs.Prelude.{◌≡◌, refl, Some, None, Result, Ok, Err, Bool, true, false, cond, length, get_or, set, drop, ltb, eqb}
use Rattle.std.proofs.Common.{ap, length-append, length-set, ltb-true, lt-ltb}
use mathlib.Core.List.{List, [], ◌∷◌, ◌++◌}
use native.Mathlib.Omega.{arith}
use Rattle.loglines.specs.Ink.{Page, ink_one, ink}
use Rattle.loglines.specs.Laws.{ink_all}
use Rattle.answers.specs.declared.Refusal.{Refusal}
use Rattle.answers.specs.declared.Refusal.TheVariants.{Room}
use Rattle.outcomes.specs.Outcomes.{mark}
use Rattle.outcomes.specs.Tallies.{known_in}
use Rattle.outcomes.specs.Lines.{
  part_of,
  number_in,
  decimal_in,
  empty_word,
  other_word,
  value_text,
  queue_head,
  numbers_text,
  outcome_line,
  outcome_lines,
  others_line,
  outcomes_text,
  pen_says,
  put_lines,
}

-- ---- decimal numbers

decimal_long : (w n : ℕ) → length (decimal_in w n) ≤ w
unfolding decimal_in
decimal_long zero n = omega arith
decimal_long (suc w) n = by (ltb n 10) (decimal_long w (n / 10))
  where
    by : (b : Bool) → length (decimal_in w (n / 10)) ≤ w
        → length (cond b ((48 + n % 10) ∷ []) (decimal_in w (n / 10) ++ ((48 + n % 10) ∷ []))) ≤ suc w
    by true h = omega arith
    by false h = simp length-append (omega arith)

-- one digit more for a number below ten times as much
one_digit_more : (m l : ℕ) → 0 < m → ((w n : ℕ) → n < m → length (decimal_in w n) ≤ l) → (w n : ℕ) → n < m * 10
    → length (decimal_in w n) ≤ l + 1
unfolding decimal_in
one_digit_more m l p h zero n k = omega arith
one_digit_more m l p h (suc w) n k = by (ltb n 10) (h w (n / 10) (omega arith))
  where
    by : (b : Bool) → length (decimal_in w (n / 10)) ≤ l
        → length (cond b ((48 + n % 10) ∷ []) (decimal_in w (n / 10) ++ ((48 + n % 10) ∷ []))) ≤ l + 1
    by true g = omega arith
    by false g = simp length-append (omega arith)

one_digit : (w n : ℕ) → n < 10 → length (decimal_in w n) ≤ 1
unfolding decimal_in
one_digit zero n h = omega arith
one_digit (suc w) n h = rw (lt-ltb n 10 h) (omega arith)

five_digits : (w n : ℕ) → n < 100000 → length (decimal_in w n) ≤ 5
five_digits =
    one_digit_more 10000 4 (omega arith)
    (one_digit_more 1000 3 (omega arith) (one_digit_more 100 2 (omega arith) (one_digit_more 10 1 (omega arith) one_digit)))

-- ---- a line

part_small : (w j : ℕ) → part_of w j < 65536
unfolding part_of
part_small w j = by (eqb j 0) (eqb j 1) (eqb j 2)
  where
    by : (a b c : Bool)
        → cond a (w % 65536) (cond b (w / 65536 % 65536) (cond c (w / 4294967296 % 65536) (w / 281474976710656 % 65536))) < 65536
    by true b c = omega arith
    by false true c = omega arith
    by false false true = omega arith
    by false false false = omega arith

value_long : (x : ℕ) → x < 65536 → length (value_text x) ≤ 6
unfolding value_text
value_long x h = by (eqb x 0)
  where
    by : (b : Bool) → length (cond b empty_word ((32 ∷ []) ++ decimal_in 20 x)) ≤ 6
    by true = omega arith
    by false = omega (arith, five_digits 20 x (omega arith))

queue_long : (q : ℕ) → q < 100000 → length (queue_head q) ≤ 12
unfolding queue_head
queue_long q h = simp length-append (omega (arith, five_digits 20 q h))

module _ (ts : List ℕ) (key queues : ℕ) where
  numbers_long : (rest j q : ℕ) → q + rest ≤ 16 → length (numbers_text rest ts key j queues q) ≤ 12 * rest
  unfolding numbers_text number_in
  numbers_long zero j q h = omega arith
  numbers_long (suc rest) j q h =
      by (eqb (number_in ts key j) mark) (ltb q queues) (numbers_long rest (j + 1) (q + 1) (omega arith))
      (numbers_long rest (j + 1) q (omega arith))
    where
      more : List ℕ
      more = numbers_text rest ts key (j + 1) queues (q + 1)

      others : List ℕ
      others = numbers_text rest ts key (j + 1) queues q

      by : (a b : Bool) → length more ≤ 12 * rest → length others ≤ 12 * rest
          → length (cond a (cond b (queue_head (q + 1) ++ more) []) (value_text (number_in ts key j) ++ others)) ≤ 12 * suc rest
      by true true k l = simp length-append (omega (arith, queue_long (q + 1) (omega arith)))
      by true false k l = omega arith
      by false b k l = simp length-append (omega (arith, value_long (number_in ts key j) (part_small _ _)))

line_long : (ts : List ℕ) (i queues : ℕ) → length (outcome_line ts i queues) ≤ 222
unfolding outcome_line
line_long ts i queues =
    simp length-append
    (omega (arith, decimal_long 20 (get_or ts (2 + 5 * i) 0), numbers_long ts (2 + 5 * i + 1) queues 16 0 0 (omega arith)))

lines_long : (n : ℕ) (ts : List ℕ) (i queues : ℕ) → length (outcome_lines n ts i queues) ≤ 222 * n
unfolding outcome_lines
lines_long zero ts i queues = omega arith
lines_long (suc n) ts i queues = simp length-append (omega (arith, line_long ts i queues, lines_long n ts (i + 1) queues))

others_long : (n : ℕ) → length (others_line n) ≤ 27
unfolding others_line
others_long n = by (eqb n 0)
  where
    by : (b : Bool) → length (cond b [] (decimal_in 20 n ++ other_word)) ≤ 27
    by true = omega arith
    by false = simp length-append (omega (arith, decimal_long 20 n))

known_small : (ts : List ℕ) → known_in ts ≤ 1024
unfolding known_in
known_small ts = by (ltb (get_or ts 0 0) 1024) refl
  where
    by : (b : Bool) → ltb (get_or ts 0 0) 1024 ≡ b → cond b (get_or ts 0 0) 1024 ≤ 1024
    by true e = omega (arith, ltb-true (get_or ts 0 0) 1024 e)
    by false e = omega arith

-- ---- all lines

abbrev pub enough : ℕ
enough = 262144

pub lines_fit : (ts : List ℕ) (queues : ℕ) → length (outcomes_text ts queues) ≤ enough
unfolding outcomes_text
lines_fit ts queues =
    simp length-append
    (omega (arith, lines_long (known_in ts) ts 0 queues, known_small ts, others_long (get_or ts 1 0)))

-- room that is enough has all lines at its start, and what it had past them
pub lines_all : (room ts : List ℕ) (queues : ℕ) → enough ≤ length room
    → put_lines room (outcomes_text ts queues)
    ≡ (Ok (length (outcomes_text ts queues)), outcomes_text ts queues ++ drop (length (outcomes_text ts queues)) room)
unfolding put_lines
lines_all room ts queues h =
    ap pen_says (ink_all room (outcomes_text ts queues) (omega (arith, lines_fit ts queues)))

-- ---- no more bytes than the room has

abbrev Within : Page → Type 0
Within (Some n, room) = n ≤ length room
Within (None, room) = Unit

one_within : (x : Page) (b : ℕ) → Within x → Within (ink_one x b)
unfolding ink_one
one_within (Some at, room) b h = by (ltb at (length room)) refl
  where
    by : (t : Bool) → ltb at (length room) ≡ t → Within (cond t (Some (at + 1), set room at b) (None, room))
    by true e = rw length-set (omega (arith, ltb-true at (length room) e))
    by false e = tt
one_within (None, room) b h = tt

ink_within : (x : Page) (bs : List ℕ) → Within x → Within (ink x bs)
unfolding ink
ink_within x [] h = h
ink_within x (b ∷ bs) h = ink_within (ink_one x b) bs (one_within x b h)

pub lines_within : (room text after : List ℕ) (n : ℕ) → put_lines room text ≡ (Ok n, after) → n ≤ length after
unfolding put_lines
lines_within room text after n e = by (ink (Some 0, room) text) (ink_within (Some 0, room) text (omega arith)) e
  where
    by : (x : Page) → Within x → pen_says x ≡ (Ok n, after) → n ≤ length after
    by (Some m, r) h e =
        let f : ◌≡◌ {A = Result ℕ Refusal} (Ok m) (Ok n) = ap (λ q. q.0) e in
        let g : r ≡ after = ap (λ q. q.1) e in
        let k : m ≡ n = cc in
        omega (arith, ap length g)
    by (None, r) h e =
        let f : ◌≡◌ {A = Result ℕ Refusal} (Err Room) (Ok n) = ap (λ q. q.0) e in let z : ◌≡◌ {A = ℕ} 0 1 = cc in absurd (omega arith)
