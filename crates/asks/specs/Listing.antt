-- Listing a queue: its nodes from head along next, the sentinel left out, into lent room.
use Rattle.std.specs.Prelude.{ℕ, zero, suc, List, [], ◌∷◌, ◌++◌, cond, length, drop, ltb, eqb, Option, Some, None}
use Rattle.words.specs.declared.Queue.{Queue}
use Rattle.words.specs.declared.Sizes.{Sizes}
use Rattle.words.specs.declared.Word.TheVariants.{Head, Next}
use Rattle.words.specs.Layout.{node, rd, measured}
use Rattle.answers.specs.Said.{Said, refused, says}
use Rattle.conditions.specs.Conditions.{no_queue, unquiet}

-- node c before the rest of a chain, or left out where it is the sentinel q
unfoldable pub before : ℕ → ℕ → Option (List ℕ) → Option (List ℕ)
before q c None = None
before q c (Some ns) = Some (cond (eqb c q) ns (c ∷ ns))

-- the chain from c on: it ends at a next of 0 within n nodes, and has no number above N; node q is left out
unfoldable pub chain : Sizes → List ℕ → ℕ → ℕ → ℕ → Option (List ℕ)
chain s t q zero c = cond (eqb c 0) (Some []) None
chain s t q (suc n) c =
    cond (eqb c 0) (Some []) (cond (ltb s.nodes c) None (before q c (chain s t q n (rd s t (Next (node c))))))

-- refusal 10 where this is None: head is 0, or the chain is None
unfoldable pub nodes_from : Sizes → List ℕ → ℕ → ℕ → Option (List ℕ)
nodes_from s t q head = cond (eqb head 0) None (chain s t q s.nodes head)

abbrev pub nodes_of : Sizes → List ℕ → Queue → Option (List ℕ)
nodes_of s t q = nodes_from s t q.0 (rd s t (Head q))

-- the nodes at the front of the room, nothing past them, and how many they are
unfoldable pub listed : Option (List ℕ) → List ℕ → Said ℕ × List ℕ
listed None room = (refused 10, room)
listed (Some ns) room =
    cond (ltb (length room) (length ns)) (refused 12, room) (says (length ns), ns ++ drop (length ns) room)

unfoldable pub listing_sized : Sizes → List ℕ → Queue → List ℕ → Said ℕ × List ℕ
listing_sized s t q room =
    cond (no_queue s q) (refused 4, room) (cond (unquiet s t q) (refused 11, room) (listed (nodes_of s t q) room))

unfoldable pub listing_measured : List ℕ → Queue → List ℕ → Option Sizes → Said ℕ × List ℕ
listing_measured t q room None = (refused 1, room)
listing_measured t q room (Some s) = listing_sized s t q room

-- refusals 1, 4, 11, 10, 12
unfoldable pub listing_of : List ℕ → Queue → List ℕ → Said ℕ × List ℕ
listing_of t q room = listing_measured t q room (measured t)
