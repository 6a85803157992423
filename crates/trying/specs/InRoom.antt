-- The bytes of an answer are in the room that it has.
use Rattle.std.specs.Prelude.{ℕ, ◌≤◌, Bool}
use Rattle.answers.specs.Said.{Said, refused, says}

abbrev pub InRoom : Said (ℕ × Bool) → ℕ → Type 0
InRoom (says x) room = x.0 ≤ room
InRoom (refused r) room = Unit {0}
