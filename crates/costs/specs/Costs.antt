-- How many steps of its own an operation has taken when it comes to a point: the facts, a line a point, that each step keeps beside the
-- invariant. They speak of memory and of the frame alone.
--
-- v bounds the number of the queue's nodes. A level is passed as k in four steps (E3 to E6), or as m in two and one walk of at most v
-- loads (E13, E14, E16): it costs at most w = v + 6. So w steps are set aside for each level that is not passed yet, and for the walk
-- from tail; the walk along the own chain, once it is linked in, is v steps more.
use Rattle.std.specs.Prelude.{ℕ, suc, ◌+◌, ◌*◌, ◌≤◌, ◌≡◌, ◌≢◌, cond, List, eqb, length}
use Rattle.words.specs.declared.Sizes.{Sizes}
use Rattle.words.specs.declared.Frame.{Frame}
use Rattle.lists.specs.Count.{cnt}
use Rattle.state.specs.Step.{State}
use Rattle.state.specs.Queues.{On}
use Rattle.table.specs.Points.{Point, E1, E2, E3, E4, E5, E6, E7, E8, E9, E10, E11, E12, E13, E14, E15, E16, E17, E18}
use Rattle.table.specs.Points.{E19, E20, E21, E22, E23, E24, E25, E26, E27, E28, E29, D1, D2, D3, D4, D5, D6, D7, Unknown, point_of}
use Rattle.invariant.specs.Sound.{own_in}

-- the walk from c along next loads a 0 within so many loads
pub data Ends (next : ℕ → ℕ) : ℕ → ℕ → Type 0 where
  ends : {c d : ℕ} → next c ≡ 0 → Ends next c (suc d)
  goes : {c d : ℕ} → Ends next (next c) d → Ends next c (suc d)

-- what a dequeue has taken when it hands in its sentinel: D1 to D6
unfoldable pub base : ℕ → ℕ
base op = cond (eqb op 2) 6 0

-- the steps s of an operation at its end, at level l
pub record Most (l v w op s : ℕ) : Type 0 where
  pub enqueue : op ≡ 1 → s ≤ l * w + v + 9
  pub dequeue : s ≤ l * w + v + 21

module _ (top q v w l : ℕ) (next : ℕ → ℕ) (head op k m c s : ℕ) where
  -- a dequeue that hands in its sentinel, or has done so, will find another node in front: it does not do it twice
  abbrev pub Gone : Type 0
  Gone = op ≡ 2 → head ≢ q

  -- with y set aside: at most x past what all levels cost
  abbrev pub Upto : ℕ → ℕ → Type 0
  Upto y x = Gone × (s + y ≤ base op + l * w + x)

  -- with the walk set aside that is left
  pub record Walked (x : ℕ) : Type 0 where
    pub gone : Gone
    pub left : ℕ
    pub walk : Ends next c left
    pub upto : s + left ≤ base op + l * w + x

  -- the same in the walk from tail, m = L, and in one from level m, with the levels below it
  pub record Searched : Type 0 where
    pub gone : Gone
    pub left : ℕ
    pub walk : Ends next c left
    pub tail : m ≡ top → s + left ≤ base op + l * w
    pub level : m ≢ top → s + left + (m * w + w) ≤ base op + l * w + 1

  -- a dequeue at its D points, i steps on: in its first turn, or in its second, after its sentinel was handed in
  pub data Turned (i : ℕ) : Type 0 where
    first : s ≤ i → Turned i
    second : head ≢ q → s ≤ l * w + v + 15 + i → Turned i

  abbrev pub Spent : Point → Type 0
  Spent E1 = Upto (l * w) 0
  Spent E2 = Upto (l * w) 1
  Spent E3 = Upto (k * w + w) 2
  Spent E4 = Upto (k * w + w) 3
  Spent E5 = Upto (k * w + w) 4
  Spent E6 = Upto (k * w + w) 5
  Spent E7 = Upto 0 2
  Spent E8 = Upto 0 3
  Spent E9 = Upto 0 4
  Spent E10 = Walked (v + 5)
  Spent E11 = Upto 0 (v + 5)
  Spent E12 = Upto 0 (v + 6)
  Spent E13 = Upto (m * w + w + w) 5
  Spent E14 = Upto (m * w + w + w) 6
  Spent E15 = Upto w 5
  Spent E16 = Searched
  Spent E17 = Upto 0 0
  Spent E18 = Upto 0 1
  Spent E19 = Walked (v + 2)
  Spent E20 = Upto 0 (v + 2)
  Spent E21 = Upto 0 0
  Spent E22 = Upto 0 1
  Spent E23 = Walked (v + 2)
  Spent E24 = Upto 0 (v + 2)
  Spent E25 = Upto 0 (v + 3)
  Spent E26 = Upto 0 (v + 4)
  Spent E27 = Upto 0 (v + 5)
  Spent E28 = Upto 0 (v + 7)
  Spent E29 = Upto 0 (v + 8)
  Spent D1 = Turned 0
  Spent D2 = Turned 1
  Spent D3 = Turned 2
  Spent D4 = Turned 3
  Spent D5 = Turned 4
  Spent D6 = (head ≢ q) × (s ≤ 5)
  Spent D7 = s ≤ l * w + v + 20
  Spent Unknown = ⊥

-- the fact of a frame
abbrev pub SpentBy : ℕ → ℕ → ℕ → ℕ → ℕ → (ℕ → ℕ) → ℕ → Frame → ℕ → Point → Type 0
SpentBy top q v w l next head f s p = Spent top q v w l next head f.op f.k.0 f.m.0 f.c.0 s p

-- the facts of all frames on queue q
abbrev pub Paid : Sizes → ℕ → ℕ → State → Type 0
Paid s q v W = (j : ℕ) → On q (W.frames j)
    → SpentBy s.levels q v (v + 6) j W.mem.next (W.mem.head q) (W.frames j) (W.frames j).steps
    (point_of (W.frames j).point)

-- v bounds the number of nodes that queue q has
abbrev pub Few : Sizes → ℕ → ℕ → State → Type 0
Few s q v W = (xs : List ℕ) → ((y : ℕ) → cnt y xs ≤ own_in s q W y) → length xs ≤ v
