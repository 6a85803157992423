-- How often a list of moves is listed, and which of two schedules comes first.
use Rattle.std.specs.Prelude.{ℕ, ◌+◌, Bool, true, false, ◌&&◌, List, [], ◌∷◌}
use Rattle.lists.specs.Count.{hit}
use Rattle.ways.specs.Schedules.{Move, step, begin}

abbrev pub same_move : Move → Move → Bool
same_move step step = true
same_move step begin = false
same_move begin step = false
same_move begin begin = true

abbrev pub same : List Move → List Move → Bool
same [] [] = true
same [] (y ∷ ys) = false
same (x ∷ xs) [] = false
same (x ∷ xs) (y ∷ ys) = same_move x y && same xs ys

-- how often the moves ms are listed
abbrev pub times : List Move → List (List Move) → ℕ
times ms [] = 0
times ms (xs ∷ xss) = hit (same ms xs) + times ms xss

-- where they first differ, the first takes a step and the second begins
pub data Before : List Move → List Move → Type 0 where
  here : {xs ys : List Move} → Before (step ∷ xs) (begin ∷ ys)
  later : {m : Move} {xs ys : List Move} → Before xs ys → Before (m ∷ xs) (m ∷ ys)

abbrev pub BeforeAll : List Move → List (List Move) → Type 0
BeforeAll xs [] = Unit
BeforeAll xs (ys ∷ yss) = Before xs ys × BeforeAll xs yss

-- each is before all that follow it
abbrev pub Ordered : List (List Move) → Type 0
Ordered [] = Unit
Ordered (xs ∷ xss) = BeforeAll xs xss × Ordered xss
