-- What the search answers to a caller in C: one number, a value and 65,536 times a code, as the calls do, and the numbers that it tells.
use Rattle.std.specs.Prelude.{ℕ, ◌+◌, ◌*◌, List, [], ◌∷◌, Bool, true, false}
use Rattle.answers.specs.Said.{Said, refused, says}
use Rattle.tries.specs.Tries.{Answer}

abbrev pub packed : ℕ → ℕ → ℕ
packed value code = value + 65536 * code

-- the value is 1 where there are more schedules than the bound; a refusal's number is its code
abbrev pub tried_reply : Said (ℕ × (ℕ × Bool)) → ℕ
tried_reply (refused r) = packed 0 r
tried_reply (says (n, (bytes, true))) = packed 1 0
tried_reply (says (n, (bytes, false))) = packed 0 0

abbrev pub number_reply : Said ℕ → ℕ
number_reply (refused r) = packed 0 r
number_reply (says n) = packed 0 0

-- ---- the schedules listed and their bytes, or how many there are; a refusal leaves what was there

abbrev pub tried_told : Said (ℕ × (ℕ × Bool)) → List ℕ → List ℕ
tried_told (refused r) w = w
tried_told (says (n, (bytes, more))) w = n ∷ bytes ∷ []

abbrev pub number_told : Said ℕ → List ℕ → List ℕ
number_told (refused r) w = w
number_told (says n) w = n ∷ []

-- ---- what a call gives: its answer, the room, and what is told

abbrev pub tried_out : Answer → List ℕ → ℕ × (List ℕ × List ℕ)
tried_out x w = (tried_reply x.0, (x.1, tried_told x.0 w))

abbrev pub number_out : Said ℕ → List ℕ → ℕ × List ℕ
number_out x w = (number_reply x, number_told x w)
