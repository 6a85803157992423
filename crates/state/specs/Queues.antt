-- What belongs to one queue: its frames, its nodes, its words; and what it means that nothing of it moved.
use Rattle.std.specs.Prelude.{ℕ, ◌≤◌, ◌<◌, ◌≡◌, ◌≢◌, ◌⊎◌, cond, List, [], ◌∷◌, ltb, eqb}
use Rattle.words.specs.declared.Node.{Node}
use Rattle.words.specs.declared.Sizes.{Sizes}
use Rattle.words.specs.declared.Frame.{Frame}
use Rattle.words.specs.declared.Word.{Word}
use Rattle.words.specs.declared.Word.TheVariants.{LevelNode, LevelQueue, Head, Tail, Next, Use}
use Rattle.words.specs.Laws.{Bound}
use Rattle.table.specs.declared.After.{After}
use Rattle.table.specs.Table.{Row, loads, stores, frees, nothing}
use Rattle.lists.specs.Count.{hit}
use Rattle.state.specs.Step.{State}

-- a frame that works on queue q
abbrev pub On : ℕ → Frame → Type 0
On q f = (f.op ≢ 0) × (f.queue.0 ≡ q)

-- 1 for a node of queue q, 0 for any other: its sentinel, of the nodes up to sentinels, and the nodes above whose use names it
unfoldable pub own : ℕ → (ℕ → ℕ) → ℕ → ℕ → ℕ
own sentinels uses q x = cond (ltb sentinels x) (hit (eqb (uses x) q)) (hit (eqb x q))

-- a store of v to this word stays within queue q
abbrev pub Mine : Sizes → ℕ → State → Word → ℕ → Type 0
Mine s q S (LevelNode j) v = On q (S.frames j.0)
Mine s q S (LevelQueue j) v = On q (S.frames j.0) × ((v ≡ q) ⊎ (v ≡ 0))
Mine s q S (Head j) v = j.0 ≡ q
Mine s q S (Tail j) v = j.0 ≡ q
Mine s q S (Next n) v = own s.queues S.mem.uses q n.0 ≡ 1
Mine s q S (Use n) v = ⊥

-- a row's access is to a word that the table has, and a store of it stays within queue q
pub data Within (s : Sizes) (q : ℕ) (S : State) : Row → Type 0 where
  load : {w : Word} {after : ℕ → After} → Bound s w → Within s q S (loads w after)
  store : {w : Word} {v : ℕ} {after : After} → Bound s w → Mine s q S w v → Within s q S (stores w v after)
  free : {n : Node} {after : After} → s.queues < n.0 → n.0 ≤ s.nodes → own s.queues S.mem.uses q n.0 ≡ 1
      → Within s q S (frees n after)

-- the node that a row frees
abbrev pub out_of : Row → List ℕ
out_of (loads w after) = []
out_of (stores w v after) = []
out_of (frees n after) = n.0 ∷ []
out_of nothing = []

-- a level of which nothing moved, or of which nothing is queue q's, before and after
pub data Alike (q : ℕ) (S T : State) (j : ℕ) : Type 0 where
  still : T.frames j ≡ S.frames j → T.mem.ln j ≡ S.mem.ln j → T.mem.lq j ≡ S.mem.lq j → Alike q S T j
  others : ¬ On q (S.frames j) → ¬ On q (T.frames j) → S.mem.lq j ≢ q → T.mem.lq j ≢ q → Alike q S T j

-- nothing of queue q moved from S to T
pub record Apart (s : Sizes) (q : ℕ) (S T : State) : Type 0 where
  pub head : T.mem.head q ≡ S.mem.head q
  pub tail : T.mem.tail q ≡ S.mem.tail q
  pub owns : (x : ℕ) → own s.queues T.mem.uses q x ≡ own s.queues S.mem.uses q x
  pub next : (x : ℕ) → own s.queues S.mem.uses q x ≡ 1 → T.mem.next x ≡ S.mem.next x
  pub level : (j : ℕ) → Alike q S T j
