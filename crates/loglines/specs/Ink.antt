-- Bytes written one after another into lent room: so many are written, or the room is full and takes no more.
use Rattle.std.specs.Prelude.{ℕ, ◌+◌, ◌≡◌, List, [], ◌∷◌, Option, Some, None, cond, length, set, ltb}
use Rattle.loglines.specs.declared.Sheet.{Sheet}

-- how many bytes are written, none if the room is full; and the room
abbrev pub Page : Type 0
Page = Option ℕ × List ℕ

unfoldable pub ink_one : Page → ℕ → Page
ink_one (Some at, room) b = cond (ltb at (length room)) (Some (at + 1), set room at b) (None, room)
ink_one (None, room) b = (None, room)

unfoldable pub ink : Page → List ℕ → Page
ink x [] = x
ink x (b ∷ bs) = ink (ink_one x b) bs

-- how far the sheet is written
abbrev pub page : Sheet → Page
page p = (p.at, p.room.now)

-- the sheet q is p after these bytes, in the same room
pub record Writes (p q : Sheet) (bytes : List ℕ) : Type 0 where
  pub same_room : q.room.ghost_name ≡ p.room.ghost_name
  pub inked : ink (page p) bytes ≡ page q
