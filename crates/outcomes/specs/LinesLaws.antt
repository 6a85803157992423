-- What the proofs of the lines cite.
use Rattle.std.specs.Prelude.{ℕ, zero, suc, ◌+◌, ◌-◌, ◌/◌, ◌%◌, ◌≤◌, ◌<◌, ◌≡◌, List, [], ◌∷◌, Option, Some, Result, get_or}
use Rattle.std.proofs.Math.Path.{refl, ap}
use Rattle.std.proofs.Common.{◌*◌, ◌^◌, sym, ◌∙◌, arith, sub-one}
use Rattle.std.specs.Fmt.{decimal}
use Rattle.std.proofs.lemmas.Fmt.{AppendsLastDigit, decimal_from_appends, length-decimal-le}
use borrow.Author.Tests.{lt-ltb, le-ltb, eq-eqb, ne_eqb}
use Rattle.loglines.specs.declared.Sheet.{Sheet}
use Rattle.loglines.specs.Ink.{Page, page, ink, Writes}
use Rattle.loglines.specs.Laws.{ink_then}
use Rattle.answers.specs.declared.Refusal.{Refusal}
use Rattle.outcomes.specs.Outcomes.{mark}
use Rattle.outcomes.specs.Tallies.{known_in}
use Rattle.outcomes.specs.Lines.{
  part_of,
  number_in,
  decimal_in,
  decimal_of,
  value_text,
  queue_head,
  numbers_text,
  outcome_line,
  outcome_lines,
  others_line,
  outcomes_text,
  written_of,
  pen_says,
  put_lines,
  count_line,
  counted_text,
}

-- ---- decimal numbers

pub decimal_none : (x : Page) (w n : ℕ) → w ≡ 0 → ink x (decimal_in w n) ≡ x
unfolding decimal_in ink
decimal_none x zero n e = refl
decimal_none x (suc w) n e = absurd (omega arith)

pub decimal_one : {y : Page} (x : Page) (w n : ℕ) → (w ≡ 0 → ⊥) → n < 10 → ink x ((48 + n % 10) ∷ []) ≡ y
    → ink x (decimal_in w n) ≡ y
unfolding decimal_in
decimal_one x zero n e h i = absurd (e refl)
decimal_one x (suc w) n e h i = rw (lt-ltb n 10 h) i

pub decimal_more : {y z : Page} (x : Page) (w n : ℕ) → (w ≡ 0 → ⊥) → 10 ≤ n → ink x (decimal_in (w - 1) (n / 10)) ≡ y
    → ink y ((48 + n % 10) ∷ []) ≡ z → ink x (decimal_in w n) ≡ z
unfolding decimal_in
decimal_more x zero n e h i j = absurd (e refl)
decimal_more x (suc w) n e h i j = rw (le-ltb n 10 h) (ink_then x _ _ (simp sub-one at i) j)

-- a word's four numbers, by a shift
pub part_shifted : (w j : ℕ) → j < 4 → w / 2 ^ (16 * j) % 65536 ≡ part_of w j
unfolding part_of
part_shifted w zero h = omega arith
part_shifted w (suc zero) h = omega arith
part_shifted w (suc (suc zero)) h = omega arith
part_shifted w (suc (suc (suc zero))) h = omega arith
part_shifted w (suc (suc (suc (suc j)))) h = absurd (omega arith)

decimal_appends : AppendsLastDigit decimal_in
unfolding decimal_in
decimal_appends = record {
  one = λ k n l. let e : n % 10 ≡ n = omega arith in rw (lt-ltb n 10 l, e) refl;
  more = λ k n l. rw (le-ltb n 10 l) refl;
}

-- what std writes for a number of 64 bits
pub decimal_std : (n : ℕ) → n < 2 ^ 64 → decimal_of n ≡ decimal n
decimal_std n h = decimal_from_appends decimal_in decimal_appends 20 n h (length-decimal-le 20 n (omega arith) (omega arith) h)

-- ---- a sheet with some of the bytes left to write

-- the sheet q is p after all bytes, once the rest is written
pub record Writing (p q : Sheet) (bytes rest : List ℕ) : Type 0 where
  pub same_room : q.room.ghost_name ≡ p.room.ghost_name
  pub inked : ink (page p) bytes ≡ ink (page q) rest

pub writing_on : {p q r : Sheet} {bytes rest next : List ℕ} → Writing p q bytes rest → r.room.ghost_name ≡ q.room.ghost_name
    → ink (page q) rest ≡ ink (page r) next → Writing p r bytes next
writing_on w s e = record { same_room = s ∙ w.same_room; inked = w.inked ∙ e }

pub writing_ends : {p q : Sheet} {bytes rest : List ℕ} → Writing p q bytes rest → ink (page q) rest ≡ page q → Writes p q bytes
writing_ends w e = record { same_room = w.same_room; inked = w.inked ∙ e }

-- ---- the numbers of a key

one_less : (j : ℕ) → j < 16 → 16 - j ≡ suc (16 - (j + 1))
one_less j h = omega arith

module _ (x : Page) (ts : List ℕ) (key j v queues q : ℕ) (more : j < 16) (is : v ≡ number_in ts key j) where
  pub numbers_queue : {y : Page} → v ≡ mark → q < queues → ink x (queue_head (q + 1)) ≡ y
      → ink x (numbers_text (16 - j) ts key j queues q) ≡ ink y (numbers_text (16 - (j + 1)) ts key (j + 1) queues (q + 1))
  unfolding numbers_text
  numbers_queue m h i =
      ap (λ (r : ℕ). ink x (numbers_text r ts key j queues q)) (one_less j more)
      ∙ rw (eq-eqb (number_in ts key j) mark (sym is ∙ m), lt-ltb q queues h) (ink_then x _ _ i refl)

  pub numbers_end : v ≡ mark → queues ≤ q → ink x (numbers_text (16 - j) ts key j queues q) ≡ x
  unfolding numbers_text ink
  numbers_end m h =
      ap (λ (r : ℕ). ink x (numbers_text r ts key j queues q)) (one_less j more)
      ∙ rw (eq-eqb (number_in ts key j) mark (sym is ∙ m), le-ltb q queues h) refl

  pub numbers_value : {y : Page} → (v ≡ mark → ⊥) → ink x (value_text v) ≡ y
      → ink x (numbers_text (16 - j) ts key j queues q) ≡ ink y (numbers_text (16 - (j + 1)) ts key (j + 1) queues q)
  unfolding numbers_text
  numbers_value m i =
      ap (λ (r : ℕ). ink x (numbers_text r ts key j queues q)) (one_less j more)
      ∙ rw (ne_eqb (number_in ts key j) mark (λ e. m (is ∙ e))) (ink_then x _ _ (rw is at i) refl)

pub numbers_none : (x : Page) (ts : List ℕ) (key j queues q : ℕ) → 16 ≤ j → ink x (numbers_text (16 - j) ts key j queues q) ≡ x
unfolding numbers_text ink
numbers_none x ts key j queues q h = let e : 16 - j ≡ 0 = omega arith in rw e

-- ---- the lines

pub lines_more : {y : Page} (x : Page) (ts : List ℕ) (n i queues : ℕ) → i < n → ink x (outcome_line ts i queues) ≡ y
    → ink x (outcome_lines (n - i) ts i queues) ≡ ink y (outcome_lines (n - (i + 1)) ts (i + 1) queues)
unfolding outcome_lines
lines_more x ts n i queues h e =
    let one : n - i ≡ suc (n - (i + 1)) = omega arith in
    ap (λ (r : ℕ). ink x (outcome_lines r ts i queues)) one ∙ ink_then x _ _ e refl

pub lines_none : (x : Page) (ts : List ℕ) (n i queues : ℕ) → n ≤ i → ink x (outcome_lines (n - i) ts i queues) ≡ x
unfolding outcome_lines ink
lines_none x ts n i queues h = let e : n - i ≡ 0 = omega arith in rw e

pub lines_start : (x : Page) (ts : List ℕ) (n queues : ℕ)
    → ink x (outcome_lines n ts 0 queues) ≡ ink x (outcome_lines (n - 0) ts 0 queues)
lines_start x ts n queues = let e : n ≡ n - 0 = omega arith in ap (λ (r : ℕ). ink x (outcome_lines r ts 0 queues)) e

pub lines_written : (room after ts : List ℕ) (queues count n : ℕ) (x y : Page) (pen : Option ℕ) (r : Result ℕ Refusal) → n ≡ known_in ts
    → ink (Some 0, room) (count_line count) ≡ x → ink x (outcome_lines n ts 0 queues) ≡ y → ink y (others_line (get_or ts 1 0)) ≡ (pen, after)
    → r ≡ written_of pen → put_lines room (counted_text count ts queues) ≡ (r, after)
unfolding put_lines counted_text outcomes_text
lines_written room after ts queues count n x y pen r k d e f w =
    ap pen_says (ink_then (Some 0, room) _ _ d (ink_then x _ _ (rw k at e) f)) ∙ ap (λ (v : Result ℕ Refusal). (v, after)) (sym w)
