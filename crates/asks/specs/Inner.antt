-- What our own functions hand each other about a chain that is counted and written.
use Rattle.std.specs.Prelude.{ℕ, ◌+◌, ◌≤◌, List, cond, length, set, eqb, Option, None, Some}
use Rattle.std.proofs.lemmas.List.Edits.{sets}

-- 1 for a node of the listing, 0 for the sentinel q
unfoldable pub weight : ℕ → ℕ → ℕ
weight q c = cond (eqb c q) 0 1

-- k nodes and those of a chain
unfoldable pub counted : ℕ → Option (List ℕ) → Option ℕ
counted k None = None
counted k (Some ns) = Some (k + length ns)

-- the room has places from i on for a chain's nodes
unfoldable pub RoomFor : Option (List ℕ) → ℕ → List ℕ → Type 0
RoomFor None i room = ⊥
RoomFor (Some ns) i room = i + length ns ≤ length room

-- the room with them there
unfoldable pub written : Option (List ℕ) → ℕ → List ℕ → List ℕ
written None i room = room
written (Some ns) i room = sets room i ns

-- the room with node c at place i, or as it is for the sentinel q
unfoldable pub put : ℕ → ℕ → ℕ → List ℕ → List ℕ
put q c i room = cond (eqb c q) room (set room i c)
