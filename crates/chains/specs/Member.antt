-- Where a number stands in a list: at its end, or at some place.
use Rattle.std.specs.Prelude.{ℕ, ◌≡◌, List, [], ◌∷◌, ◌++◌}

-- c is the last of xs
abbrev pub Last : ℕ → List ℕ → Type 0
Last c xs = (pre : List ℕ) × (xs ≡ pre ++ c ∷ [])

-- c stands in xs, here
pub record Place (c : ℕ) (xs : List ℕ) : Type 0 where
  pub pre : List ℕ
  pub post : List ℕ
  pub whole : xs ≡ pre ++ c ∷ post
