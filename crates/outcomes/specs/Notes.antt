-- Numbers noted one after another in lent room, as far as it reaches.
use Rattle.std.specs.Prelude.{ℕ, ◌+◌, List, [], ◌∷◌, cond, length, set, ltb}

-- the next place, and the room
abbrev pub Notes : Type 0
Notes = ℕ × List ℕ

unfoldable pub note_one : Notes → ℕ → Notes
note_one (n, room) x = cond (ltb n (length room)) (n + 1, set room n x) (n, room)

unfoldable pub note : Notes → List ℕ → Notes
note x [] = x
note x (b ∷ bs) = note (note_one x b) bs

-- the numbers at the front of the room, as far as it reaches
unfoldable pub over : List ℕ → List ℕ → List ℕ
over [] xs = []
over (r ∷ room) [] = r ∷ room
over (r ∷ room) (x ∷ xs) = x ∷ over room xs
