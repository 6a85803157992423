-- A stretch of a chain: from a pointer the next words lead through a list of nodes to another pointer.
use Rattle.std.specs.Prelude.{ℕ, ◌≡◌, List, [], ◌∷◌}

-- from pointer s the links of f visit xs, and the last points to t
pub data Seg (f : ℕ → ℕ) : ℕ → List ℕ → ℕ → Type 0 where
  stop : {s t : ℕ} → s ≡ t → Seg f s [] t
  link : {s x t : ℕ} {xs : List ℕ} → s ≡ x → Seg f (f x) xs t → Seg f s (x ∷ xs) t
