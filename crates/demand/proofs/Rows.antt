-- What every row of the step table has in common: it keeps the frame's op, queue and steps; an enqueue ends with its own node;
-- a dequeue ends with a node only where it frees it, and else empty.
use Prim.Native.Nat.{ℕ}
use mathlib.Core.Path.{◌≡◌, refl, sym, ap, ◌∙◌}
use mathlib.Core.Logic.{◌≢◌, ◌⊎◌, inl, inr}
use mathlib.Core.List.{List, [], ◌∷◌}
use native.Mathlib.Omega.{arith}
use mathlib.Core.Bool.{Bool, true, false, cond}
use lib.Dec.{eqb}
use Rattle.words.specs.declared.Level.{Level}
use Rattle.words.specs.declared.Queue.{Queue}
use Rattle.words.specs.declared.Node.{Node}
use Rattle.words.specs.declared.Sizes.{Sizes}
use Rattle.words.specs.declared.Frame.{Frame}
use Rattle.words.specs.declared.Word.{Word}
use Rattle.table.specs.declared.After.{After}
use Rattle.table.specs.declared.After.TheVariants.{Go, Done}
use Rattle.table.specs.Points as point
use Rattle.table.specs.Points.{Point, Unknown, number_of, points, point_in, point_of}
use Rattle.words.specs.Layout.{level}
use Rattle.table.specs.Laws.{point_is, if_other}
use Rattle.table.specs.Frames.{at, counted, if_eq, below_k_to, below_m_to, walk_to}
use Rattle.table.specs.Table.{Row, loads, stores, frees, nothing, row}
use Rattle.state.specs.Mem.{Mem, look}
use Rattle.state.specs.Step.{State, mem_after, then, frame_after, row_of}
use Rattle.state.specs.Queues.{On, Within}
use Rattle.state.specs.Queues as within
use Rattle.lists.specs.Count.{Same, same, apart, same?}

-- what follows at the point p, for a frame f
pub data Plain (p : Point) (f : Frame) : After → Type 0 where
  goes : {g : Frame} → g.op ≡ f.op → g.queue ≡ f.queue → g.steps ≡ f.steps → Plain p f (Go g)
  empty : {n : Node} → (p ≡ point.D2) ⊎ (p ≡ point.D3) → n.0 ≡ 0 → Plain p f (Done n)
  handed : {n : Node} → f.op ≡ 1 → n ≡ f.node → Plain p f (Done n)

-- a row of the point p
pub data Plainly (p : Point) (f : Frame) : Row → Type 0 where
  load : {w : Word} {after : ℕ → After} → ((x : ℕ) → Plain p f (after x)) → Plainly p f (loads w after)
  store : {w : Word} {v : ℕ} {after : After} → Plain p f after → Plainly p f (stores w v after)
  free : {n : Node} → p ≡ point.D7 → n ≡ f.c → Plainly p f (frees n (Done n))
  none : Plainly p f nothing

-- a branch, by what it tests
by_eq : {p : Point} {f : Frame} {a b : ℕ} {x y : After} → (a ≡ b → Plain p f x) → Plain p f y → Plain p f (if_eq a b x y)
unfolding if_eq
by_eq {p} {f} {a} {b} {x} {y} h k = by (eqb a b) (same? a b)
  where
    by : (t : Bool) → Same a b t → Plain p f (cond t x y)
    by true (same e) = h e
    by false (apart e) = k

-- the branches of the step table over a frame g that has f's op, queue and steps
below_k_holds : {p : Point} {f : Frame} (g : Frame) → g.op ≡ f.op → g.queue ≡ f.queue → g.steps ≡ f.steps → (x y : ℕ)
    → Plain p f (below_k_to x y g)
unfolding below_k_to
below_k_holds g o q n x y = by_eq (λ e. goes o q n) (goes o q n)

below_m_holds : {p : Point} {f : Frame} (g : Frame) → g.op ≡ f.op → g.queue ≡ f.queue → g.steps ≡ f.steps → (x y : ℕ)
    → Plain p f (below_m_to x y g)
unfolding below_m_to
below_m_holds g o q n x y = by_eq (λ e. goes o q n) (goes o q n)

walk_on : {p : Point} {f : Frame} (x v : ℕ) → Plain p f (walk_to x v f)
unfolding walk_to
walk_on x v = by_eq (λ e. goes refl refl refl) (goes refl refl refl)

by : (p : Point) (f : Frame) (a : After) → Plain p f a
    → ((frame_after a).op ≡ 0) ⊎ (((frame_after a).op ≡ f.op) × ((frame_after a).queue ≡ f.queue))
by p f a (goes o q n) = inr (o, q)
by p f a (empty d e) = inl refl
by p f a (handed o e) = inl refl

pub row_plain : (p : Point) (f : Frame) (l top : Level) → Plainly p f (row p f l top)
unfolding row
row_plain point.E1 f l top = store (goes refl refl refl)
row_plain point.E2 f l top = store (below_k_holds _ refl refl refl 7 3)
row_plain point.E3 f l top = load (λ x. by_eq (λ e. goes refl refl refl) (below_k_holds _ refl refl refl 7 3))
row_plain point.E4 f l top = load (λ x. goes refl refl refl)
row_plain point.E5 f l top = load (λ x. by_eq (λ e. goes refl refl refl) (below_m_holds _ refl refl refl 15 13))
row_plain point.E6 f l top = store (below_k_holds _ refl refl refl 7 3)
row_plain point.E7 f l top = load (λ x. goes refl refl refl)
row_plain point.E8 f l top = load (λ x. walk_on 9 x)
row_plain point.E9 f l top = store (goes refl refl refl)
row_plain point.E10 f l top = load (λ x. walk_on 11 x)
row_plain point.E11 f l top = store (goes refl refl refl)
row_plain point.E12 f l top = store (goes refl refl refl)
row_plain point.E13 f l top = load (λ x. by_eq (λ e. goes refl refl refl) (below_m_holds _ refl refl refl 15 13))
row_plain point.E14 f l top = load (λ x. by_eq (λ e. below_m_holds _ refl refl refl 15 13) (goes refl refl refl))
row_plain point.E15 f l top = load (λ x. goes refl refl refl)
row_plain point.E16 f l top =
    load
    (λ x.
    by_eq (λ e. goes refl refl refl) (by_eq (λ e. by_eq (λ e. goes refl refl refl) (below_m_holds _ refl refl refl 15 13)) (goes refl refl refl)))
row_plain point.E17 f l top = load (λ x. goes refl refl refl)
row_plain point.E18 f l top = store (goes refl refl refl)
row_plain point.E19 f l top = load (λ x. walk_on 20 x)
row_plain point.E20 f l top = store (goes refl refl refl)
row_plain point.E21 f l top = load (λ x. goes refl refl refl)
row_plain point.E22 f l top = store (goes refl refl refl)
row_plain point.E23 f l top = load (λ x. walk_on 24 x)
row_plain point.E24 f l top = store (goes refl refl refl)
row_plain point.E25 f l top = load (λ x. by_eq (λ e. goes refl refl refl) (goes refl refl refl))
row_plain point.E26 f l top = store (goes refl refl refl)
row_plain point.E27 f l top = store (goes refl refl refl)
row_plain point.E28 f l top = store (goes refl refl refl)
row_plain point.E29 f l top = store (by_eq (λ e. handed e refl) (goes refl refl refl))
row_plain point.D1 f l top = load (λ x. goes refl refl refl)
row_plain point.D2 f l top = load (λ x. by_eq (λ e. empty (inl refl) refl) (goes refl refl refl))
row_plain point.D3 f l top = load (λ x. by_eq (λ e. empty (inr refl) refl) (goes refl refl refl))
row_plain point.D4 f l top = load (λ x. goes refl refl refl)
row_plain point.D5 f l top = store (by_eq (λ e. goes refl refl refl) (goes refl refl refl))
row_plain point.D6 f l top = store (goes refl refl refl)
row_plain point.D7 f l top = free refl refl
row_plain Unknown f l top = none

-- ---- a frame's next frame

-- the frame as it becomes has its queue still, or is none
frame_after_holds : (M : Mem) (p : Point) (f : Frame) (x : Row) → Plainly p f x
    → ((frame_after (then M x f)).op ≡ 0) ⊎ (((frame_after (then M x f)).op ≡ f.op) × ((frame_after (then M x f)).queue ≡ f.queue))
frame_after_holds M p f x (load {w = w} h) = by p f _ (h (look M w))
frame_after_holds M p f x (store h) = by p f _ h
frame_after_holds M p f x (free d e) = inl refl
frame_after_holds M p f x none = inr (refl, refl)

-- the frame after a step
abbrev pub next_frame : Mem → ℕ → ℕ → Frame → Frame
next_frame M levels l f = frame_after (then M (row_of levels l f) (counted f))

pub next_frame_holds : (M : Mem) (levels l : ℕ) (f : Frame)
    → ((next_frame M levels l f).op ≡ 0) ⊎ (((next_frame M levels l f).op ≡ f.op) × ((next_frame M levels l f).queue ≡ f.queue))
unfolding counted
next_frame_holds M levels l f =
    frame_after_holds M (point_of (counted f).point) (counted f) (row_of levels l f) (row_plain (point_of (counted f).point) (counted f) (level l) (level levels))

-- a step puts no frame on a queue
pub next_on : (q : ℕ) (M : Mem) (levels l : ℕ) (f : Frame) → On q (next_frame M levels l f) → On q f
next_on q M levels l f o = by (next_frame_holds M levels l f)
  where
    g : Frame
    g = next_frame M levels l f

    by : (g.op ≡ 0) ⊎ ((g.op ≡ f.op) × (g.queue ≡ f.queue)) → On q f
    by (inl e) = absurd (o.0 e)
    by (inr e) = ((λ z. o.0 (e.0 ∙ z)), sym (ap (λ (u : Queue). u.0) e.1) ∙ o.1)

abbrev Still : Frame → Frame → Type 0
Still f g = (g.op ≡ f.op) × (g.queue ≡ f.queue) × (g.steps ≡ f.steps)

-- a frame that goes on has its op and queue still, and has counted the step
plain_go : (p : Point) (f g : Frame) (a : After) → Plain p f a → a ≡ Go g → Still f g
plain_go p f g a (goes {g = h} o q n) e = let z : h ≡ g = cc in (rw (← z) o, rw (← z) q, rw (← z) n)
plain_go p f g a (empty d n) e = cc
plain_go p f g a (handed o n) e = cc

pub goes_on : (M : Mem) (levels l : ℕ) (f g : Frame) → then M (row_of levels l f) (counted f) ≡ Go g
    → (g.op ≡ f.op) × (g.queue ≡ f.queue) × (g.steps ≡ (counted f).steps)
unfolding counted
goes_on M levels l f g e =
    by (row_of levels l f) (row_plain (point_of (counted f).point) (counted f) (level l) (level levels)) e
  where
    by : (x : Row) → Plainly (point_of (counted f).point) (counted f) x → then M x (counted f) ≡ Go g → Still (counted f) g
    by x (load {w = w} h) e = plain_go (point_of (counted f).point) (counted f) g _ (h (look M w)) e
    by x (store h) e = plain_go (point_of (counted f).point) (counted f) g _ h e
    by x (free d c) e = cc
    by x none e = plain_go (point_of (counted f).point) (counted f) g _ (goes refl refl refl) e

-- ---- the point of a number

in_number : (xs : List Point) (n : ℕ) (x : Point) → point_in xs n ≡ x → x ≢ Unknown → n ≡ number_of x
in_number [] n x e ne = absurd (ne (sym e))
in_number (y ∷ ys) n x e ne = by (eqb n (number_of y)) (same? n (number_of y)) e (in_number ys n x)
  where
    by : (t : Bool) → Same n (number_of y) t → cond t y (point_in ys n) ≡ x → (point_in ys n ≡ x → x ≢ Unknown → n ≡ number_of x) → n ≡ number_of x
    by true (same h) e ih = h ∙ ap number_of e
    by false (apart h) e ih = ih e ne

-- a number that stands for D7 is D7's
pub number_d7 : (n : ℕ) → point_of n ≡ point.D7 → n ≡ 37
unfolding point_of
number_d7 n e = in_number points n point.D7 e (λ z. (cc))

number_d3 : (n : ℕ) → point_of n ≡ point.D3 → n ≡ number_of point.D3
unfolding point_of
number_d3 n e = in_number points n point.D3 e (λ z. (cc))

-- D3 goes on where the node has a next
pub d3_goes : (M : Mem) (levels l : ℕ) (f : Frame) → f.point ≡ number_of point.D3 → M.next f.c.0 ≢ 0
    → then M (row_of levels l f) (counted f) ≡ Go (at (number_of point.D4) (counted f))
unfolding row counted
d3_goes M levels l f p h =
    ap (λ (x : Point). then M (row x (counted f) (level l) (level levels)) (counted f)) (point_is point.D3 f.point p)
    ∙ if_other (M.next f.c.0) 0 _ _ h

-- ---- an empty end

-- a dequeue ends empty at D2 and D3 alone
plain_empty : (p : Point) (f : Frame) (a : After) (n : Node) → Plain p f a → a ≡ Done n → f.op ≡ 2 → (p ≡ point.D2) ⊎ (p ≡ point.D3)
plain_empty p f a n (goes o q i) e two = cc
plain_empty p f a n (empty d z) e two = d
plain_empty p f a n (handed o z) e two = absurd (omega arith)

empty_at : (s : Sizes) (q : ℕ) (S : State) (M : Mem) (p : Point) (f : Frame) (x : Row) (n : Node) → Within s q S x → Plainly p f x
    → then M x f ≡ Done n → n.0 ≡ 0 → f.op ≡ 2 → (p ≡ point.D2) ⊎ (p ≡ point.D3)
empty_at s q S M p f x n (within.load b) (load {w = w} h) e z two = plain_empty p f _ n (h (look M w)) e two
empty_at s q S M p f x n (within.store b m) (store h) e z two = plain_empty p f _ n h e two
empty_at s q S M p f x n (within.free low high o) (free {n = c} d k) e z two =
    let same : c ≡ n = cc in absurd (omega (arith, rw same at low))

-- D2 ends where tail is c
d2_ends : (M : Mem) (levels l : ℕ) (f : Frame) (n : Node) → point_of f.point ≡ point.D2 → then M (row_of levels l f) (counted f) ≡ Done n
    → M.tail f.queue.0 ≡ f.c.0
unfolding row counted
d2_ends M levels l f n p e = by (eqb (M.tail f.queue.0) f.c.0) (same? (M.tail f.queue.0) f.c.0) (rw p at e)
  where
    by : (t : Bool) → Same (M.tail f.queue.0) f.c.0 t
        → then M (row point.D2 (counted f) (level l) (level levels)) (counted f) ≡ Done n → M.tail f.queue.0 ≡ f.c.0
    by true (same h) k = h
    by false (apart h) k =
        let goes = sym (if_other (M.tail f.queue.0) f.c.0 _ _ h) ∙ k in
        cc

-- a dequeue that ends empty, at a node c that D3 would find linked: it is at D2, tail is c, and memory stays as it is
pub ends_empty : (s : Sizes) (q levels l : ℕ) (S : State) (f : Frame) (n : Node) → Within s q S (row_of levels l f) → f.op ≡ 2
    → (f.point ≡ number_of point.D3 → S.mem.next f.c.0 ≢ 0) → then S.mem (row_of levels l f) (counted f) ≡ Done n → n.0 ≡ 0
    → (point_of f.point ≡ point.D2) × (S.mem.tail f.queue.0 ≡ f.c.0) × (mem_after S.mem (row_of levels l f) ≡ S.mem)
unfolding row counted
ends_empty s q levels l S f n inside two linked e z =
    by (empty_at s q S S.mem (point_of f.point) (counted f) (row_of levels l f) n inside
    (row_plain (point_of f.point) (counted f) (level l) (level levels)) e z two)
  where
    by : (point_of f.point ≡ point.D2) ⊎ (point_of f.point ≡ point.D3)
        → (point_of f.point ≡ point.D2) × (S.mem.tail f.queue.0 ≡ f.c.0) × (mem_after S.mem (row_of levels l f) ≡ S.mem)
    by (inl p) =
        let same = ap (λ (x : Point). mem_after S.mem (row x (counted f) (level l) (level levels))) p in
        (p, d2_ends S.mem levels l f n p e, same)
    by (inr p) =
        let at_d3 = number_d3 f.point p in
        let goes = sym (d3_goes S.mem levels l f at_d3 (linked at_d3)) ∙ e in
        cc
