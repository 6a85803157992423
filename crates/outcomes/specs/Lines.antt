-- The outcomes' lines, as bytes: `schedules COUNT`, `COUNT returned A B .. queue 1 X Y .. queue 2 Z ..` and `COUNT other`.
use Rattle.std.specs.Prelude.{ℕ, zero, suc, ◌+◌, ◌*◌, ◌/◌, ◌%◌, List, [], ◌∷◌, ◌++◌, Option, Some, None, Result, Ok, Err, cond, get_or, ltb, eqb}
use Rattle.text.specs.Text.{lf, space}
use Rattle.loglines.specs.Ink.{Page, ink}
use Rattle.answers.specs.declared.Refusal.{Refusal}
use Rattle.answers.specs.declared.Refusal.TheVariants.{Room}
use Rattle.outcomes.specs.Outcomes.{mark}
use Rattle.outcomes.specs.Tallies.{known_in}

-- ---- the numbers of a key

-- number j of a word's four
unfoldable pub part_of : ℕ → ℕ → ℕ
part_of w j =
    cond (eqb j 0) (w % 65536)
    (cond (eqb j 1) (w / 65536 % 65536) (cond (eqb j 2) (w / 4294967296 % 65536) (w / 281474976710656 % 65536)))

-- number j of the key that starts at this place
unfoldable pub number_in : List ℕ → ℕ → ℕ → ℕ
number_in ts key j = part_of (get_or ts (key + j / 4) 0) (j % 4)

-- ---- decimal numbers

-- with no leading zero; of more than w digits only the last w
unfoldable pub decimal_in : ℕ → ℕ → List ℕ
decimal_in zero n = []
decimal_in (suc w) n = cond (ltb n 10) ((48 + n % 10) ∷ []) (decimal_in w (n / 10) ++ ((48 + n % 10) ∷ []))

-- a number of 64 bits has twenty digits at most
abbrev pub decimal_of : ℕ → List ℕ
decimal_of n = decimal_in 20 n

-- ---- the fixed words: `schedules `, ` empty`, ` queue `, ` returned`, ` other` with its LF

abbrev pub schedules_word : List ℕ
schedules_word = 115 ∷ 99 ∷ 104 ∷ 101 ∷ 100 ∷ 117 ∷ 108 ∷ 101 ∷ 115 ∷ space ∷ []

abbrev pub empty_word : List ℕ
empty_word = space ∷ 101 ∷ 109 ∷ 112 ∷ 116 ∷ 121 ∷ []

abbrev pub queue_word : List ℕ
queue_word = space ∷ 113 ∷ 117 ∷ 101 ∷ 117 ∷ 101 ∷ space ∷ []

abbrev pub returned_word : List ℕ
returned_word = space ∷ 114 ∷ 101 ∷ 116 ∷ 117 ∷ 114 ∷ 110 ∷ 101 ∷ 100 ∷ []

abbrev pub other_word : List ℕ
other_word = space ∷ 111 ∷ 116 ∷ 104 ∷ 101 ∷ 114 ∷ lf ∷ []

-- ---- the lines

-- a node, or 0 for empty
unfoldable pub value_text : ℕ → List ℕ
value_text x = cond (eqb x 0) empty_word ((space ∷ []) ++ decimal_of x)

unfoldable pub queue_head : ℕ → List ℕ
queue_head q = queue_word ++ decimal_of q

-- so many numbers of the key from number j on, where the nodes of q queues are begun: the mark begins those of the next
unfoldable pub numbers_text : ℕ → List ℕ → ℕ → ℕ → ℕ → ℕ → List ℕ
numbers_text zero ts key j queues q = []
numbers_text (suc rest) ts key j queues q =
    cond (eqb (number_in ts key j) mark)
    (cond (ltb q queues) (queue_head (q + 1) ++ numbers_text rest ts key (j + 1) queues (q + 1)) [])
    (value_text (number_in ts key j) ++ numbers_text rest ts key (j + 1) queues q)

unfoldable pub outcome_line : List ℕ → ℕ → ℕ → List ℕ
outcome_line ts i queues =
    decimal_of (get_or ts (2 + 5 * i) 0) ++ (returned_word ++ (numbers_text 16 ts (2 + 5 * i + 1) 0 queues 0 ++ (lf ∷ [])))

-- so many outcomes from outcome i on
unfoldable pub outcome_lines : ℕ → List ℕ → ℕ → ℕ → List ℕ
outcome_lines zero ts i queues = []
outcome_lines (suc rest) ts i queues = outcome_line ts i queues ++ outcome_lines rest ts (i + 1) queues

unfoldable pub others_line : ℕ → List ℕ
others_line n = cond (eqb n 0) [] (decimal_of n ++ other_word)

unfoldable pub outcomes_text : List ℕ → ℕ → List ℕ
outcomes_text ts queues = outcome_lines (known_in ts) ts 0 queues ++ others_line (get_or ts 1 0)

-- how many schedules there are: `schedules COUNT`
unfoldable pub count_line : ℕ → List ℕ
count_line n = schedules_word ++ (decimal_of n ++ (lf ∷ []))

unfoldable pub counted_text : ℕ → List ℕ → ℕ → List ℕ
counted_text n ts queues = count_line n ++ outcomes_text ts queues

-- ---- written into lent room

abbrev pub written_of : Option ℕ → Result ℕ Refusal
written_of (Some n) = Ok n
written_of None = Err Room

abbrev pub pen_says : Page → Result ℕ Refusal × List ℕ
pen_says x = (written_of x.0, x.1)

unfoldable pub put_lines : List ℕ → List ℕ → Result ℕ Refusal × List ℕ
put_lines room text = pen_says (ink (Some 0, room) text)
