-- The ghost state of one queue: the operations that stand on it, the highest first, and the lists of nodes that each of them holds.
-- Above the stack lies the hot list: the nodes of the chain that the next operation will work on, up to the first mark in it.
-- Read from the top: the hot list, then the piece of each mark up to the next owner, is one chain, which begins with that owner's
-- node; then the same again from the hot list that waits below the owner. After the last owner comes the queue's own chain, from
-- tail on: what stands before tail, the settled nodes, no enqueue touches. Each step changes the top of the stack alone.
use Rattle.std.specs.Prelude.{ℕ, ◌≡◌, ◌⊎◌, List, [], ◌∷◌, ◌++◌}

pub data Item : Type 0 where
  -- no node of it is in a list: nodes that will come in, nodes that are going out
  loose : List ℕ → List ℕ → Item
  -- registered and not linked in: its node, with which a chain of its own begins, and the hot list that waits below it
  owner : ℕ → List ℕ → Item
  -- linked in: the node that its level shows, and those that follow this node up to the next mark of the chain
  mark : ℕ → List ℕ → Item

-- a level, what it does, and what lies below it
pub data Stack : Type 0 where
  floor : Stack
  push : ℕ → Item → Stack → Stack

-- the nodes of all lists of the stack
abbrev pub lists : Stack → List ℕ
lists floor = []
lists (push l (loose ins outs) st) = lists st
lists (push l (owner n x) st) = x ++ lists st
lists (push l (mark p w) st) = p ∷ (w ++ lists st)

-- the nodes that are in no list
abbrev pub flight : Stack → List ℕ
flight floor = []
flight (push l (loose ins outs) st) = ins ++ (outs ++ flight st)
flight (push l (owner n x) st) = flight st
flight (push l (mark p w) st) = flight st

-- those of them that are going out
abbrev pub leaving : Stack → List ℕ
leaving floor = []
leaving (push l (loose ins outs) st) = outs ++ leaving st
leaving (push l (owner n x) st) = leaving st
leaving (push l (mark p w) st) = leaving st

-- what follows the hot list: the first mark of its chain, or 0 at the chain's end
abbrev pub follow : Stack → ℕ
follow floor = 0
follow (push l (loose ins outs) st) = follow st
follow (push l (owner n x) st) = 0
follow (push l (mark p w) st) = p

-- the level that owns the hot list's chain; the number of levels for the queue's own chain
abbrev pub origin : ℕ → Stack → ℕ
origin top floor = top
origin top (push l (loose ins outs) st) = origin top st
origin top (push l (owner n x) st) = l
origin top (push l (mark p w) st) = origin top st

-- the node that the hot list begins with: its owner's, or tail in the queue's own chain
abbrev pub start : ℕ → Stack → ℕ
start tail floor = tail
start tail (push l (loose ins outs) st) = start tail st
start tail (push l (owner n x) st) = n
start tail (push l (mark p w) st) = start tail st

-- the level stands on the stack
abbrev pub Listed : ℕ → Stack → Type 0
Listed j floor = ⊥
Listed j (push l i st) = (j ≡ l) ⊎ Listed j st
