-- The outcome of a schedule: what its dequeues returned, in the order of their ends, and then the nodes of each queue.
use Rattle.std.specs.Prelude.{ℕ, zero, suc, ◌+◌, List, [], ◌∷◌, ◌++◌, cond, get_or, take, replicate, eqb}
use Rattle.words.specs.declared.Sizes.{Sizes}
use Rattle.words.specs.Layout.{queue}
use Rattle.answers.specs.declared.End.{End}
use Rattle.answers.specs.Said.{Said, refused, says}
use Rattle.asks.specs.Listing.{listing_of}
use Rattle.play.specs.Play.{before, steps_of}
use Rattle.ways.specs.declared.Op.{Op}
use Rattle.ways.specs.Schedules.{op_in, begun, fresh}
use Rattle.outcomes.specs.Notes.{Notes, note}

-- ends what the dequeues returned, and each queue's nodes; no node has this number
abbrev pub mark : ℕ
mark = 65535

-- what an operation that ended returned: a dequeue's node, 0 for empty
unfoldable pub returned : End → List ℕ
returned e = cond (eqb e.op 2) (e.node.0 ∷ []) []

-- what was returned, and the table afterwards
abbrev pub Replay : Type 0
Replay = List ℕ × List ℕ

-- what is noted, and the table afterwards
abbrev pub into : Notes → Replay → Notes × List ℕ
into x p = (note x p.0, p.1)

-- so many steps, up to a refused one
abbrev pub replay_steps : ℕ → List ℕ → Replay
replay_steps count t = ((steps_of returned count t).0, (steps_of returned count t).1.1)

-- an operation begins, if it is accepted, and so it goes on
unfoldable pub begin_then : (List ℕ → Replay) → Op → Replay → Replay
begin_then others o p = before p.0 (others (begun o p.1).1)

-- so many operations from operation i on, each after its steps; then the steps after the last
unfoldable pub replay_from : ℕ → List ℕ → List ℕ → ℕ → List ℕ → Replay
replay_from zero ops path i t = replay_steps (get_or path i 0) t
replay_from (suc rest) ops path i t = begin_then (replay_from rest ops path (i + 1)) (op_in ops i) (replay_steps (get_or path i 0) t)

-- ---- the queues

unfoldable pub nodes_in : Said ℕ × List ℕ → List ℕ
nodes_in (says n, nodes) = take n nodes
nodes_in (refused r, nodes) = []

-- at most six nodes are in a queue after six operations
unfoldable pub queue_nodes : List ℕ → ℕ → List ℕ
queue_nodes t q = nodes_in (listing_of t (queue q) (replicate 6 0)) ++ (mark ∷ [])

-- so many queues from queue q on
unfoldable pub queues_nodes : List ℕ → ℕ → ℕ → List ℕ
queues_nodes t q zero = []
queues_nodes t q (suc n) = queue_nodes t q ++ queues_nodes t (suc q) n

-- ---- the outcome

unfoldable pub ended_in : ℕ → Replay → List ℕ
ended_in queues p = p.0 ++ (mark ∷ queues_nodes p.1 1 queues)

-- of the k operations and the steps before each and after the last, from the table t
unfoldable pub outcome_from : ℕ → List ℕ → ℕ → List ℕ → List ℕ → List ℕ
outcome_from queues ops k path t = ended_in queues (replay_from k ops path 0 t)

-- and from a fresh table
unfoldable pub outcome_of : Sizes → List ℕ → ℕ → List ℕ → List ℕ
outcome_of s ops k path = outcome_from s.queues ops k path (fresh s)

abbrev pub sizes : ℕ → ℕ → ℕ → Sizes
sizes levels queues nodes = record { levels = levels; queues = queues; nodes = nodes }
