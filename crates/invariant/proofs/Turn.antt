-- One operation's turn: what its step must leave. The frame f at level l is the highest on the queue, over the stack st.
use Prim.Native.Nat.{ℕ, ◌+◌, ◌≤◌, ◌<◌}
use mathlib.Core.Path.{◌≡◌, refl, sym}
use mathlib.Core.Logic.{◌≢◌}
use mathlib.Core.Bool.{Bool, true, false, cond}
use mathlib.Core.List.{List, [], ◌++◌, append-nil}
use native.Mathlib.Omega.{arith}
use lib.Dec.{eqb}
use Rattle.words.specs.declared.Frame.{Frame}
use Rattle.words.specs.declared.Node.{Node}
use Rattle.words.specs.Layout.{level}
use Rattle.words.specs.declared.Word.TheVariants.{LevelNode, LevelQueue, Next}
use Rattle.lists.specs.Count.{Same, same, apart, same?, cnt, cnt_append, counts}
use Rattle.lists.specs.Beginning.{Beginning, begins_same}
use Rattle.state.specs.Mem.{Mem, put_other, upd}
use Rattle.state.specs.Step.{mem_after, then}
use Rattle.state.specs.Queues.{own, out_of}
use Rattle.table.specs.Points.{Point, number_of, point_of}
use Rattle.table.specs.Laws.{point_is}
use Rattle.table.specs.Frames.{if_eq}
use Rattle.table.specs.Table.{row}
use Rattle.table.specs.declared.After.{After}
use Rattle.table.specs.declared.After.TheVariants.{Go, Done}
use Rattle.invariant.specs.Ghost.{Item, Stack, push, lists, flight, follow, origin, start, Listed}
use Rattle.invariant.specs.Facts.{regs, Hot, Here, Works, Pile}
use Rattle.invariant.specs.Sound.{view, Stand, front_of}
use Rattle.invariant.proofs.Keep.{keep_all, the_same}

pub record Turn : Type 0 where
  pub top : ℕ
  pub q : ℕ
  pub own : ℕ → ℕ
  pub fr : ℕ → Frame
  pub l : ℕ
  pub st : Stack
  pub M : Mem
  pub f : Frame
  pub queued : 1 ≤ q
  pub below : l < top
  pub here : Works q f
  pub once : (y : ℕ) → own y ≤ 1
  pub none : own 0 ≡ 0
  pub listed : (j : ℕ) → j < l → M.lq j ≡ q → Listed j st
  pub alone : f.op ≡ 2 → (j : ℕ) → j < l → Works q (fr j) → (fr j).op ≢ 2

module _ (T : Turn) where
  open T use {top, q, fr, l, st, M, f}

  -- in a memory, with the settled nodes S: the operation itself, what lies below it, the lists of nodes, the front
  abbrev pub At : Mem → List ℕ → Frame → Point → Item → Bool → Bool → Type 0
  At M S f p i b b' = Here top q (view q M S) l (regs f) p i st b b'

  abbrev pub Below : Mem → List ℕ → Bool → Type 0
  Below M S b = Pile top q (view q M S) fr l st b

  abbrev pub Lists : (ℕ → ℕ) → Mem → List ℕ → List ℕ → Item → Type 0
  Lists own M S x i = Stand top own M.next (M.head q) (M.tail q) S x (push l i st)

  -- and the lists when the operation has ended
  abbrev pub Left : (ℕ → ℕ) → Mem → List ℕ → List ℕ → Type 0
  Left own M S x = Stand top own M.next (M.head q) (M.tail q) S x st

  abbrev pub front : Mem → List ℕ → Item → List ℕ
  front M S i = front_of q M S (push l i st)

  -- the hot list that lies below an operation that is not linked in
  abbrev pub HotBelow : List ℕ → Type 0
  HotBelow y = Hot top M.next (origin top st) (start (M.tail q) st) (follow st) y

  -- the step leaves memory M' and what follows; own' counts the queue's nodes then, frozen was the front before, and outs are handed out
  pub data Ok (own' : ℕ → ℕ) (frozen outs : List ℕ) (M' : Mem) : After → Type 0 where
    goes_on : {f' : Frame} {p : Point} {S x : List ℕ} {i : Item} {b b' : Bool}
        → point_of f'.point ≡ p → f'.op ≡ f.op → f'.queue.0 ≡ f.queue.0
        → At M' S f' p i b b' → Below M' S b → Lists own' M' S x i
        → Beginning frozen (outs ++ front M' S i) → Ok own' frozen outs M' (Go f')
    has_ended : {n : Node} {S x : List ℕ} {b : Bool}
        → M'.lq l ≢ q → Below M' S b → Left own' M' S x
        → Beginning frozen (outs ++ front_of q M' S st) → Ok own' frozen outs M' (Done n)

  pub by_eq : {own' : ℕ → ℕ} {frozen outs : List ℕ} {M' : Mem} {a b : ℕ} {x y : After} → (a ≡ b → Ok own' frozen outs M' x)
      → (a ≢ b → Ok own' frozen outs M' y) → Ok own' frozen outs M' (if_eq a b x y)
  unfolding if_eq
  by_eq {own'} {frozen} {outs} {M'} {a} {b} {x} {y} h k = go (eqb a b) (same? a b)
    where
      go : (t : Bool) → Same a b t → Ok own' frozen outs M' (cond t x y)
      go true (same e) = h e
      go false (apart e) = k e

  -- a step at point p: from each ghost state that fits the frame to one that fits what the step leaves
  abbrev pub Case : Point → Type 0
  Case p = point_of f.point ≡ p → (S x : List ℕ) (i : Item) (b b' : Bool) → At M S f p i b b' → Below M S b
      → Lists T.own M S x i
      → Ok T.own (front M S i) (out_of (row p f (level l) (level top))) (mem_after M (row p f (level l) (level top)))
      (then M (row p f (level l) (level top)) f)

  -- to point p, and the front stands still
  pub stay : {f' : Frame} {S x : List ℕ} {b b' : Bool} {own' : ℕ → ℕ} {M' : Mem} (p : Point) (i : Item)
      → point_of f'.point ≡ p → f'.op ≡ f.op → f'.queue.0 ≡ f.queue.0
      → At M' S f' p i b b' → Below M' S b → Lists own' M' S x i
      → Ok own' (front M' S i) [] M' (Go f')
  stay p i a b c d e s = goes_on a b c d e s (begins_same _)

  pub to : {f' : Frame} {S x : List ℕ} {b b' : Bool} {own' : ℕ → ℕ} {M' : Mem} (p : Point) (i : Item)
      → f'.point ≡ number_of p → f'.op ≡ f.op → f'.queue.0 ≡ f.queue.0
      → At M' S f' p i b b' → Below M' S b → Lists own' M' S x i
      → Ok own' (front M' S i) [] M' (Go f')
  to {f'} p i a b c d e s = stay p i (point_is p f'.point a) b c d e s

  -- what lies below stands still: one law for each kind of store
  module _ {S : List ℕ} {b : Bool} (d : Below M S b) where
    same_below : (M' : Mem) → ((j : ℕ) → j < l → M'.ln j ≡ M.ln j) → ((j : ℕ) → j < l → M'.lq j ≡ M.lq j)
        → ((y : ℕ) → 0 < cnt y S + cnt y (lists st) + cnt y (flight st) → M'.next y ≡ M.next y) → M'.head q ≡ M.head q
        → M'.tail q ≡ M.tail q
        → Below M' S b
    same_below M' ln= lq= next= head= tail= =
        keep_all (view q M S) (view q M' S) fr fr l (lists st ++ flight st) (omega (arith, T.below)) (λ j m. refl) ln= lq=
        (λ y (m : 0 < cnt y (lists st ++ flight st)). next= y (omega (arith, cnt_append y (lists st) (flight st))))
        (λ j m n. the_same head= [] (sym (append-nil S)) (λ y (r : 0 < cnt y S). next= y (omega arith))) (omega arith)
        (λ y. simp counts (omega arith)) (λ r. tail=) d

    pub below_ln : (v : ℕ) → Below (upd M (LevelNode (level l)) v) S b
    below_ln v = same_below (upd M (LevelNode (level l)) v) (λ j m. put_other M.ln l v j (omega arith)) (λ j m. refl)
        (λ y m. refl) refl refl

    pub below_lq : (v : ℕ) → Below (upd M (LevelQueue (level l)) v) S b
    below_lq v = same_below (upd M (LevelQueue (level l)) v) (λ j m. refl) (λ j m. put_other M.lq l v j (omega arith))
        (λ y m. refl) refl refl

    pub below_next : (a v : ℕ) → cnt a S + cnt a (lists st) + cnt a (flight st) ≡ 0
        → Below (upd M (Next (record { 0 = a })) v) S b
    below_next a v z = same_below (upd M (Next (record { 0 = a })) v) (λ j m. refl) (λ j m. refl)
        (λ y (m : 0 < cnt y S + cnt y (lists st) + cnt y (flight st)). put_other M.next a v y
        (λ e. let w : cnt y S + cnt y (lists st) + cnt y (flight st) ≡ 0 = rw e z in omega arith)) refl refl
