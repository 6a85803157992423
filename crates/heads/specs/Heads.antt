-- A fixed word of a line stands at a place.
use Rattle.std.specs.Prelude.{ℕ, List, [], ◌∷◌, Bool, true, false, ◌&&◌, drop, eqb}

unfoldable pub begins : List ℕ → List ℕ → Bool
begins [] s = true
begins (h ∷ hs) [] = false
begins (h ∷ hs) (b ∷ s) = eqb b h && begins hs s

unfoldable pub stands_at : List ℕ → List ℕ → ℕ → Bool
stands_at head text place = begins head (drop place text)
