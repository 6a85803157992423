-- The tallies: how many outcomes are kept and the schedules of the others; then for each one its schedules and the four words of its key.
use Rattle.std.specs.Prelude.{ℕ, zero, suc, ◌+◌, ◌*◌, ◌≤◌, ◌≡◌, List, [], ◌∷◌, Bool, true, cond, ◌&&◌, length, get_or, set, replicate, leb, ltb, eqb}
use Rattle.words.specs.declared.Sizes.{Sizes}
use Rattle.words.specs.Layout.{limits, words}
use Rattle.outcomes.specs.Notes.{over}
use Rattle.outcomes.specs.Outcomes.{outcome_of}

-- four numbers from place i on, in one word
unfoldable pub word_of : List ℕ → ℕ → ℕ
word_of xs i = ((get_or xs (i + 3) 0 * 65536 + get_or xs (i + 2) 0) * 65536 + get_or xs (i + 1) 0) * 65536 + get_or xs i 0

-- a key: four words
abbrev pub Key : Type 0
Key = List ℕ

-- the key of sixteen numbers
unfoldable pub key_of : List ℕ → Key
key_of xs = word_of xs 0 ∷ word_of xs 4 ∷ word_of xs 8 ∷ word_of xs 12 ∷ []

-- how many outcomes are kept: 1,024 at most
unfoldable pub known_in : List ℕ → ℕ
known_in ts = cond (ltb (get_or ts 0 0) 1024) (get_or ts 0 0) 1024

unfoldable pub has_key : List ℕ → ℕ → Key → Bool
has_key ts i key =
    eqb (get_or ts (3 + 5 * i) 0) (get_or key 0 0)
    && (eqb (get_or ts (3 + 5 * i + 1) 0) (get_or key 1 0)
    && (eqb (get_or ts (3 + 5 * i + 2) 0) (get_or key 2 0) && eqb (get_or ts (3 + 5 * i + 3) 0) (get_or key 3 0)))

-- which of so many outcomes from outcome i on has the key; the one after them where none has
unfoldable pub place_from : ℕ → List ℕ → ℕ → Key → ℕ
place_from zero ts i key = i
place_from (suc rest) ts i key = cond (has_key ts i key) i (place_from rest ts (i + 1) key)

-- a count stays at the largest
unfoldable pub one_more : ℕ → ℕ
one_more x = cond (ltb x 18446744073709551615) (x + 1) x

unfoldable pub add_one : List ℕ → ℕ → List ℕ
add_one ts i = set ts i (one_more (get_or ts i 0))

-- one schedule of a new outcome, behind n others
unfoldable pub add_entry : List ℕ → ℕ → Key → List ℕ
add_entry ts n key =
    set
    (set
    (set (set (set (set ts 0 (n + 1)) (2 + 5 * n) 1) (2 + 5 * n + 1) (get_or key 0 0)) (2 + 5 * n + 2) (get_or key 1 0))
    (2 + 5 * n + 3) (get_or key 2 0))
    (2 + 5 * n + 4) (get_or key 3 0)

-- n outcomes are kept, and i of them come before the one with this key
unfoldable pub count_at : List ℕ → ℕ → ℕ → Key → List ℕ
count_at ts n i key = cond (ltb i n) (add_one ts (2 + 5 * i)) (cond (ltb n 1024) (add_entry ts n key) (add_one ts 1))

-- one schedule more with the outcome of this key
unfoldable pub counted : List ℕ → Key → List ℕ
counted ts key = count_at ts (known_in ts) (place_from (known_in ts) ts 0 key) key

-- one schedule more with this outcome: its first sixteen numbers, or as many zeros behind it as make them sixteen
unfoldable pub counted_outcome : List ℕ → List ℕ → List ℕ
counted_outcome ts xs = counted ts (key_of (over (replicate 16 0) xs))

-- the schedule of the k operations and the steps before each and after the last is counted; tallies that are too short stay as they were
unfoldable pub tallied : Sizes → List ℕ → ℕ → List ℕ → List ℕ → List ℕ
tallied s ops k path ts = cond (leb 5122 (length ts)) (counted_outcome ts (outcome_of s ops k path)) ts

-- what a schedule's counting takes: sizes within the limits, words for the table, and at most six operations
pub record Fitting (s : Sizes) (t ops : List ℕ) (k : ℕ) : Type 0 where
  pub sized : limits s ≡ true
  pub table : words s ≤ length t
  pub few : k ≤ 6
  pub whole : 4 * k ≤ length ops
