-- The invariant of one queue, point by point: what holds of a frame, of its item on the stack, and of the words that they speak of.
use Rattle.std.specs.Prelude.{ℕ, ◌≤◌, ◌<◌, ◌≡◌, ◌≢◌, Bool, true, false, List, [], ◌∷◌, ◌++◌}
use Rattle.words.specs.declared.Frame.{Frame}
use Rattle.lists.specs.Count.{cnt}
use Rattle.table.specs.Points.{Point, E1, E2, E3, E4, E5, E6, E7, E8, E9, E10, E11, E12, E13, E14, E15, E16, E17, E18}
use Rattle.table.specs.Points.{E19, E20, E21, E22, E23, E24, E25, E26, E27, E28, E29, D1, D2, D3, D4, D5, D6, D7, point_of}
use Rattle.chains.specs.Member.{Last}
use Rattle.chains.specs.Seg.{Seg}
use Rattle.invariant.specs.Ghost.{Item, loose, owner, mark, Stack, floor, push, lists, follow, origin, start}

-- a frame's words as numbers, its point and its steps left out
pub record Regs : Type 0 where
  pub op : ℕ
  pub n : ℕ
  pub k : ℕ
  pub p : ℕ
  pub c : ℕ
  pub a : ℕ
  pub r : ℕ
  pub m : ℕ

abbrev pub regs : Frame → Regs
regs f = record { op = f.op; n = f.node.0; k = f.k.0; p = f.p.0; c = f.c.0; a = f.a.0; r = f.r.0; m = f.m.0 }

-- what one queue's facts read: the levels' words, the next words, its head and tail, and the settled nodes, from head up to tail
pub record View : Type 0 where
  pub ln : ℕ → ℕ
  pub lq : ℕ → ℕ
  pub next : ℕ → ℕ
  pub head : ℕ
  pub tail : ℕ
  pub settled : List ℕ

-- ---- the hot list x over a stack, whose chain has the origin o and the start s, and t follows it

-- it begins with the start of its chain and leads to what follows it; where nothing follows in the queue's own chain, it is tail alone
pub record Hot (top : ℕ) (next : ℕ → ℕ) (o s t : ℕ) (x : List ℕ) : Type 0 where
  pub more : List ℕ
  pub begins : x ≡ s ∷ more
  pub linked : Seg next s x t
  pub alone : o ≡ top → t ≡ 0 → more ≡ []

-- ---- an operation that is not registered

-- ln is the node that its level shows; the settled nodes S begin with the c that a dequeue is about to take.
-- The two lists: nodes that will come in, nodes that are going out
module _ (q : ℕ) (next : ℕ → ℕ) (ln head : ℕ) (S : List ℕ) (g : Regs) where
  open g use {op, n, c, r}

  pub data Loose : Point → List ℕ → List ℕ → Type 0 where
    e1 : next n ≡ 0 → Loose E1 (n ∷ []) []
    e2 : next n ≡ 0 → ln ≡ n → Loose E2 (n ∷ []) []
    e28_off : Loose E28 [] []
    e29 : Loose E29 [] []
    d1 : op ≡ 2 → Loose D1 [] []
    d2 : op ≡ 2 → c ≡ head → Loose D2 [] []
    d3 : {R : List ℕ} → op ≡ 2 → S ≡ c ∷ R → Loose D3 [] []
    d4 : {R : List ℕ} → op ≡ 2 → S ≡ c ∷ R → Loose D4 [] []
    d5 : {R : List ℕ} → op ≡ 2 → S ≡ c ∷ R → r ≡ next c → Loose D5 [] []
    d6 : op ≡ 2 → c ≡ q → Loose D6 (c ∷ []) []
    d7 : op ≡ 2 → c ≢ q → Loose D7 [] (c ∷ [])

-- ---- an operation that is registered and not linked in

-- no level between k and l is registered
abbrev pub Free : (ℕ → ℕ) → ℕ → ℕ → ℕ → Type 0
Free lq q k l = (j : ℕ) → k < j → j < l → lq j ≢ q

-- k is the highest registered level below l
pub record Highest (lq : ℕ → ℕ) (q k l : ℕ) : Type 0 where
  pub below : k < l
  pub registered : lq k ≡ q
  pub free : Free lq q k l

-- p is what that level shows, and its operation still goes on: it is the first node of that level's own chain, or a mark,
-- before which the search looks for a place; then P holds of the search
pub data Aim (top o s t p : ℕ) (P : Type 0) : Type 0 where
  behind : o ≢ top → t ≡ 0 → p ≡ s → Aim top o s t p P
  before : p ≡ t → p ≢ 0 → P → Aim top o s t p P

-- the search from level m downwards has not passed the owner of the chain
abbrev pub NotPast : ℕ → ℕ → ℕ → Type 0
NotPast top o m = o ≢ top → o ≤ m

-- and the walk that begins at that owner, or at tail, is in the hot list
pub record Walking (top o m c : ℕ) (x : List ℕ) : Type 0 where
  pub here : m ≡ o → 0 < cnt c x
  pub above : o ≢ top → o ≤ m
  pub more : o ≢ top → m ≢ top

-- l is its level; below it lie the hot list x, of a chain with origin o and start s, which t follows, and the nodes lower in the
-- stack's lists;
-- done says that the highest registered level there is one whose work is done
module _ (top q l : ℕ) (ln lq next : ℕ → ℕ) (tail o s t : ℕ) (x lower : List ℕ) (done : Bool) (g : Regs) where
  open g use {k, p, c, a, r, m}

  pub data Unlinked : Point → Type 0 where
    e3 : k < l → Free lq q k l → Unlinked E3
    e4 : Highest lq q k l → Unlinked E4
    e5 : Highest lq q k l → p ≡ ln k → Unlinked E5
    e6 : Highest lq q k l → done ≡ true → Unlinked E6
    e7 : ((j : ℕ) → j < l → lq j ≢ q) → Unlinked E7
    e8 : ((j : ℕ) → j < l → lq j ≢ q) → c ≡ tail → Unlinked E8
    e9 : ((j : ℕ) → j < l → lq j ≢ q) → c ≡ tail → Unlinked E9
    e13 : done ≡ false → Aim top o s t p (NotPast top o m) → m < l → Unlinked E13
    e14 : done ≡ false → Aim top o s t p (NotPast top o m) → m < l → lq m ≡ q → Unlinked E14
    e15 : done ≡ false → Aim top o s t p (o ≡ top) → Unlinked E15
    e16 : done ≡ false → Aim top o s t p (Walking top o m c x) → (m ≢ top → m < l) → 0 < cnt c (x ++ lower) → Unlinked E16
    e17 : done ≡ false → Aim top o s t p ⊥ → Unlinked E17
    e18 : done ≡ false → Aim top o s t p ⊥ → r ≡ next p → Unlinked E18
    e21 : done ≡ false → p ≡ t → p ≢ 0 → Last a x → Unlinked E21
    e22 : done ≡ false → p ≡ t → p ≢ 0 → Last a x → r ≡ p → Unlinked E22

-- ---- an operation that is linked in

-- its piece s ∷ w is cut: the first part ends, and the rest hangs on r
pub record Cut (next : ℕ → ℕ) (s : ℕ) (w : List ℕ) (r t : ℕ) : Type 0 where
  pub block : List ℕ
  pub rest : List ℕ
  pub whole : w ≡ block ++ rest
  pub ends : Seg next s (s ∷ block) 0
  pub hangs : Seg next r rest t

-- its chain has the origin o; t follows its piece s ∷ w
module _ (top : ℕ) (next : ℕ → ℕ) (tail o t s : ℕ) (w : List ℕ) (g : Regs) where
  open g use {c, a, r}

  pub data Linked : Point → Type 0 where
    e10 : o ≡ top → t ≡ 0 → Seg next s (s ∷ w) t → 0 < cnt c (s ∷ w) → Linked E10
    e11 : o ≡ top → t ≡ 0 → Seg next s (s ∷ w) t → Last c (s ∷ w) → Linked E11
    e12 : o ≡ top → t ≡ 0 → Seg next s (s ∷ w) t → s ≡ c → w ≡ [] → Linked E12
    e19 : o ≢ top → (u : Cut next s w r t) → 0 < cnt c (s ∷ u.block) → Linked E19
    e20 : o ≢ top → (u : Cut next s w r t) → Last c (s ∷ u.block) → Linked E20
    e23 : t ≢ 0 → (o ≢ top → a ≢ tail) → (u : Cut next s w r t) → 0 < cnt c (s ∷ u.block) → Linked E23
    e24 : t ≢ 0 → (o ≢ top → a ≢ tail) → (u : Cut next s w r t) → Last c (s ∷ u.block) → Linked E24
    e25 : t ≢ 0 → (o ≢ top → a ≢ tail) → Seg next s (s ∷ w) t → 0 < cnt c (s ∷ w) → Linked E25
    e26 : t ≢ 0 → o ≡ top → Seg next s (s ∷ w) t → 0 < cnt c (s ∷ w) → Linked E26
    e27 : t ≢ 0 → o ≡ top → Seg next s (s ∷ w) t → s ≡ c → Linked E27
    e28 : (o ≡ top → t ≢ 0) → Seg next s (s ∷ w) t → Linked E28

-- ---- an operation with its item, over the stack st

-- the two tests: whether the highest registered level is one whose work is done, below this one and with it
module _ (top q : ℕ) (v : View) (l : ℕ) (g : Regs) where
  pub data Here : Point → Item → Stack → Bool → Bool → Type 0 where
    is_loose : {p : Point} {ins outs : List ℕ} {st : Stack} {b : Bool}
        → v.lq l ≢ q → Loose q v.next (v.ln l) v.head v.settled g p ins outs → Here p (loose ins outs) st b b
    -- tail is the node that its level shows: all that is left is to take itself off
    is_done : {st : Stack} → v.lq l ≡ q → v.ln l ≡ v.tail → origin top st ≡ top → Here E28 (loose [] []) st false true
    is_owner : {p : Point} {x : List ℕ} {st : Stack} {b : Bool}
        → v.lq l ≡ q → v.ln l ≡ g.n → Hot top v.next (origin top st) (start v.tail st) (follow st) x
        → Unlinked top q l v.ln v.lq v.next v.tail (origin top st) (start v.tail st) (follow st) x
        (lists st) b g p
        → Here p (owner g.n x) st b false
    is_mark : {p : Point} {s : ℕ} {w : List ℕ} {st : Stack}
        → v.lq l ≡ q → v.ln l ≡ s → Linked top v.next v.tail (origin top st) (follow st) s w g p
        → Here p (mark s w) st false false

-- ---- all of them

-- a frame on the queue
pub record Works (q : ℕ) (f : Frame) : Type 0 where
  pub busy : 1 ≤ f.op
  pub known : f.op ≤ 2
  pub queued : f.queue.0 ≡ q

-- the operations on the queue below level n
module _ (top q : ℕ) (v : View) (fr : ℕ → Frame) where
  pub data Pile : ℕ → Stack → Bool → Type 0 where
    bottom : {n : ℕ} → Pile n floor false
    upon : {n l : ℕ} {p : Point} {i : Item} {st : Stack} {b b' : Bool}
        → l < n → Works q (fr l) → point_of (fr l).point ≡ p → Here top q v l (regs (fr l)) p i st b b' → Pile l st b
        → Pile n (push l i st) b'
