-- What trying answers, and the room or the tallies afterwards.
use Rattle.std.specs.Prelude.{ℕ, zero, suc, ◌/◌, Bool, true, false, cond, List, [], ◌∷◌, ◌++◌, map, length, take, ltb, eqb, Result, Ok, Err}
use Rattle.std.proofs.lemmas.List.Edits.{sets}
use Rattle.words.specs.declared.Sizes.{Sizes}
use Rattle.words.specs.Layout.{limits}
use Rattle.answers.specs.declared.Refusal.{Refusal}
use Rattle.answers.specs.Said.{Said, refused, says, number, answer_says}
use Rattle.ways.specs.declared.Op.{Op}
use Rattle.ways.specs.Schedules.{Move, ops_in, schedules}
use Rattle.entries.specs.Texts.{counts, schedule_text}
use Rattle.outcomes.specs.Tallies.{tallied}
use Rattle.tries.specs.declared.Tried.{Tried}

abbrev pub sizes : ℕ → ℕ → ℕ → Sizes
sizes l q n = record { levels = l; queues = q; nodes = n }

-- four words an operation; up to three words that are left over are none
abbrev pub operations : List ℕ → List Op
operations ws = ops_in (length ws / 4) ws 0

-- the texts of all schedules
abbrev pub texts : Sizes → List Op → List (List ℕ)
texts s ops = map (schedule_text s ops) (schedules s ops)

unfoldable pub joined : List (List ℕ) → List ℕ
joined [] = []
joined (x ∷ xs) = x ++ joined xs

-- there are more than m
unfoldable pub more_than : {A : Type 0} → ℕ → List A → Bool
more_than m [] = false
more_than zero (x ∷ xs) = true
more_than (suc m) (x ∷ xs) = more_than m xs

-- the number of the first refusal of so many operations, or 0: 14, then 2, as for fresh or for more than 1,024 nodes
unfoldable pub why : Sizes → ℕ → ℕ
why s operations = cond (ltb 6 operations) 14 (cond (ltb 1024 s.nodes) 2 (cond (limits s) 0 2))

-- ---- the list

-- schedules listed, bytes, and whether there are more; and the room
abbrev pub Answer : Type 0
Answer = Said (ℕ × (ℕ × Bool)) × List ℕ

abbrev pub tried_says : Result Tried Refusal → Said (ℕ × (ℕ × Bool))
tried_says (Ok x) = says (x.count, (x.bytes, x.more))
tried_says (Err r) = refused (number r)

-- the first texts as far as the bound, one after another; 12 where the room is too small for them
unfoldable pub listed_in : List (List ℕ) → ℕ → List ℕ → Answer
listed_in ts bound room =
    cond (ltb (length room) (length (joined (take bound ts)))) (refused 12, room)
    (says (length (take bound ts), (length (joined (take bound ts)), more_than bound ts)), sets room 0 (joined (take bound ts)))

unfoldable pub tries_of : ℕ → ℕ → ℕ → List ℕ → ℕ → List ℕ → Answer
tries_of l q n ws bound room =
    cond (eqb (why (sizes l q n) (length ws / 4)) 0) (listed_in (texts (sizes l q n) (operations ws)) bound room)
    (refused (why (sizes l q n) (length ws / 4)), room)

-- ---- their number

abbrev pub number_says : Result ℕ Refusal → Said ℕ
number_says = answer_says

unfoldable pub number_of : ℕ → ℕ → ℕ → List ℕ → Said ℕ
number_of l q n ws =
    cond (eqb (why (sizes l q n) (length ws / 4)) 0) (says (length (schedules (sizes l q n) (operations ws))))
    (refused (why (sizes l q n) (length ws / 4)))

-- ---- their outcomes

-- these schedules of k operations, counted one after another
unfoldable pub tallied_all : Sizes → List ℕ → ℕ → List (List Move) → List ℕ → List ℕ
tallied_all s ws k [] ts = ts
tallied_all s ws k (ms ∷ mss) ts = tallied_all s ws k mss (tallied s ws k (counts 0 ms) ts)

-- every schedule is counted; tallies that are too short, and those of a refusal, stay as they were
unfoldable pub tallies_of : ℕ → ℕ → ℕ → List ℕ → List ℕ → List ℕ
tallies_of l q n ws ts =
    cond (eqb (why (sizes l q n) (length ws / 4)) 0)
    (tallied_all (sizes l q n) ws (length ws / 4) (schedules (sizes l q n) (operations ws)) ts)
    ts

-- their number, and the tallies afterwards
abbrev pub tally_of : ℕ → ℕ → ℕ → List ℕ → List ℕ → Said ℕ × List ℕ
tally_of l q n ws ts = (number_of l q n ws, tallies_of l q n ws ts)
