-- The invariant of queue q in a state, with the frozen front of the queue, and what it is kept by.
-- The queue's nodes, once each, are those settled, those of the hot list, and those of the operations on it.
use Rattle.std.specs.Prelude.{ℕ, ◌+◌, ◌≤◌, ◌<◌, ◌≡◌, ◌≢◌, Bool, List, [], ◌∷◌, ◌++◌}
use Rattle.words.specs.declared.Sizes.{Sizes}
use Rattle.words.specs.declared.Frame.{Frame}
use Rattle.lists.specs.Count.{cnt}
use Rattle.lists.specs.Beginning.{Beginning, without}
use Rattle.state.specs.Mem.{Mem}
use Rattle.state.specs.Step.{State, row_of, stepped}
use Rattle.state.specs.Queues.{On, own, Within, out_of}
use Rattle.table.specs.Points.{Point, number_of, D3}
use Rattle.chains.specs.Member.{Last}
use Rattle.chains.specs.Seg.{Seg}
use Rattle.invariant.specs.Ghost.{Item, Stack, lists, flight, leaving, follow, origin, start, Listed}
use Rattle.invariant.specs.Facts.{regs, View, Hot, Here, Pile}

-- what queue q's facts read in a memory
abbrev pub view : ℕ → Mem → List ℕ → View
view q M S = record { ln = M.ln; lq = M.lq; next = M.next; head = M.head q; tail = M.tail q; settled = S }

-- the settled nodes, the hot list and the stack's lists hold the queue's nodes, each as often as own says
pub record Stand (top : ℕ) (own next : ℕ → ℕ) (head tail : ℕ) (S x : List ℕ) (st : Stack) : Type 0 where
  pub hot : Hot top next (origin top st) (start tail st) (follow st) x
  pub settled : Seg next head S tail
  pub all : (y : ℕ) → cnt y S + cnt y x + cnt y (lists st) + cnt y (flight st) ≡ own y

-- the frozen front of the queue: what is going out, and the settled nodes with tail, the sentinel left out
abbrev pub front_of : ℕ → Mem → List ℕ → Stack → List ℕ
front_of q M S st = without q (leaving st ++ (S ++ M.tail q ∷ []))

-- the same of queue q in a state, of the sizes s
abbrev pub own_in : Sizes → ℕ → State → ℕ → ℕ
own_in s q W = own s.queues W.mem.uses q

abbrev pub HereIn : Sizes → ℕ → State → List ℕ → ℕ → Frame → Point → Item → Stack → Bool → Bool → Type 0
HereIn s q W S l f p i st b b' = Here s.levels q (view q W.mem S) l (regs f) p i st b b'

abbrev pub PileIn : Sizes → ℕ → State → List ℕ → ℕ → Stack → Bool → Type 0
PileIn s q W S n st b = Pile s.levels q (view q W.mem S) W.frames n st b

abbrev pub StandIn : Sizes → ℕ → State → List ℕ → List ℕ → Stack → Type 0
StandIn s q W S x st = Stand s.levels (own_in s q W) W.mem.next (W.mem.head q) (W.mem.tail q) S x st

-- ---- the invariant

pub record Sound (s : Sizes) (q : ℕ) (W : State) (front : List ℕ) : Type 0 where
  -- the ghost state
  pub settled : List ℕ
  pub hot : List ℕ
  pub stack : Stack
  pub done : Bool
  -- the operations on the queue, and the lists of its nodes
  pub pile : PileIn s q W settled s.levels stack done
  pub stand : StandIn s q W settled hot stack
  -- the frames on the queue are those of the stack, registered levels have one, and one dequeue at most is among them
  pub listed : (j : ℕ) → On q (W.frames j) → Listed j stack
  pub registered : (j : ℕ) → W.mem.lq j ≡ q → On q (W.frames j)
  pub one : (i j : ℕ) → On q (W.frames i) → On q (W.frames j) → (W.frames i).op ≡ 2 → (W.frames j).op ≡ 2 → i ≡ j
  -- the queue's nodes are nodes of the table, and the queue is one of its queues
  pub nodes : (y : ℕ) → own_in s q W y ≡ 1 → (1 ≤ y) × (y ≤ s.nodes)
  pub low : 1 ≤ q
  pub high : q ≤ s.queues
  pub front_is : front ≡ front_of q W.mem settled stack

-- a queue at rest: its nodes in one chain from head to tail
pub record Chained (s : Sizes) (q : ℕ) (W : State) (front : List ℕ) : Type 0 where
  pub nodes : List ℕ
  pub linked : Seg W.mem.next (W.mem.head q) nodes 0
  pub ends : Last (W.mem.tail q) nodes
  pub once : (x : ℕ) → cnt x nodes ≡ own_in s q W x
  pub front_is : front ≡ without q nodes

-- ---- what a step does

-- the frame is one that a step accepts, its access is within the table and the queue, the invariant is kept, what was frozen in
-- front stays so,
-- and D3 does not end a dequeue
pub record Stepping (s : Sizes) (q : ℕ) (W : State) (l : ℕ) (front : List ℕ) : Type 0 where
  pub op : (W.frames l).op ≤ 2
  pub point : (W.frames l).op ≡ 1 → (W.frames l).point < 31
  pub within : Within s q W (row_of s.levels l (W.frames l))
  pub front' : List ℕ
  pub sound : Sound s q (stepped s.levels l W) front'
  pub begins : Beginning front (out_of (row_of s.levels l (W.frames l)) ++ front')
  pub linked : (W.frames l).point ≡ number_of D3 → W.mem.next (W.frames l).c.0 ≢ 0
