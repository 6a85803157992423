-- A step of each: both load the same word or store the same, what follows is alike, and so is the memory afterwards.
use Prim.Native.Nat.{ℕ, suc, ◌≤◌, ◌<◌}
use mathlib.Core.Path.{◌≡◌, refl, sym, ap, ◌∙◌}
use mathlib.Core.Logic.{◌≢◌}
use mathlib.Core.Bool.{Bool, cond}
use native.Mathlib.Omega.{arith}
use lib.Dec.{eqb}
use Rattle.words.specs.declared.Node.{Node}
use Rattle.words.specs.declared.Frame.{Frame}
use Rattle.words.specs.declared.Word.{Word}
use Rattle.words.specs.declared.Word.TheVariants.{LevelNode, LevelQueue, Head, Tail, Next, Use}
use Rattle.words.specs.Layout.{level, queue, node}
use Rattle.table.specs.declared.After.{After}
use Rattle.table.specs.declared.After.TheVariants.{Done}
use Rattle.table.specs.Points as point
use Rattle.table.specs.Points.{Point, Unknown}
use Rattle.table.specs.Frames.{set_c, set_m}
use Rattle.table.specs.Table.{Row, loads, stores, frees, row}
use Rattle.state.specs.Mem.{Mem, look, put, put_other, upd}
use Rattle.state.specs.Step.{mem_after, then}
use Rattle.invariant.specs.Ghost.{Item, Stack}
use Rattle.invariant.specs.Facts as facts
use Rattle.invariant.specs.Facts.{regs, View, Here, is_owner}
use Rattle.invariant.proofs.Words.{unknown}
use Rattle.drains.proofs.Lift.{Bumped, at_top}
use Rattle.readers.proofs.Alike.{twin, Alike, Both, end, on, by_eq, walks, below_k_holds, below_m_holds, below_top, same_m, enters, walked}

-- a column of each, with another value at one place
put_both : (f g : ℕ → ℕ) (i v j : ℕ) → f j ≡ g j → put f i v j ≡ put g i v j
unfolding put
put_both f g i v j h = ap (cond (eqb j i) v) h

-- and at the place of the own level, which neither reads
put_own : {top l : ℕ} → l < top → (f g : ℕ → ℕ) (v j : ℕ) → j < l → f j ≡ g j → put f l v j ≡ put g top v j
put_own {top} {l} low f g v j a h = put_other f l v j (λ z. omega arith) ∙ h ∙ sym (put_other g top v j (λ z. omega arith))

module _ (top l q : ℕ) where
  -- rows that go together, in the memories A and B
  pub data Paired (A B : Mem) : Row → Row → Type 0 where
    load : {w v : Word} {h k : ℕ → After} → look A w ≡ look B v → ((x : ℕ) → Both top l q (h x) (k x)) → Paired A B (loads w h) (loads v k)
    store : {w v : Word} {x : ℕ} {a b : After} → Alike top l q (upd A w x) (upd B v x) → Both top l q a b
        → Paired A B (stores w x a) (stores v x b)
    free : {n : Node} → Paired A B (frees n (Done n)) (frees n (Done n))

module _ {top l q : ℕ} {A B : Mem} (low : l < top) (r : Alike top l q A B) where
  -- ---- the stores

  put_ln : (v : ℕ) → Alike top l q (upd A (LevelNode (level l)) v) (upd B (LevelNode (level top)) v)
  put_ln v =
      let ln : (j : ℕ) → j < l → put A.ln l v j ≡ put B.ln top v j = λ j a. put_own low A.ln B.ln v j a (r.ln j a) in
      record { head = r.head; tail = r.tail; next = r.next; ln = ln; lq = r.lq; between = r.between }

  put_lq : (v : ℕ) → Alike top l q (upd A (LevelQueue (level l)) v) (upd B (LevelQueue (level top)) v)
  put_lq v =
      let lq : (j : ℕ) → j < l → put A.lq l v j ≡ put B.lq top v j = λ j a. put_own low A.lq B.lq v j a (r.lq j a) in
      let between : (j : ℕ) → l ≤ j → j < top → put B.lq top v j ≢ q =
      λ j a b. rw (put_other B.lq top v j (λ z. omega arith)) (r.between j a b) in
      record { head = r.head; tail = r.tail; next = r.next; ln = r.ln; lq = lq; between = between }

  put_lower : (k v : ℕ) → k < l → Alike top l q (upd A (LevelQueue (level k)) v) (upd B (LevelQueue (level k)) v)
  put_lower k v c =
      let lq : (j : ℕ) → j < l → put A.lq k v j ≡ put B.lq k v j = λ j a. put_both A.lq B.lq k v j (r.lq j a) in
      let between : (j : ℕ) → l ≤ j → j < top → put B.lq k v j ≢ q =
      λ j a b. rw (put_other B.lq k v j (λ z. omega arith)) (r.between j a b) in
      record { head = r.head; tail = r.tail; next = r.next; ln = r.ln; lq = lq; between = between }

  put_next : (i v : ℕ) → Alike top l q (upd A (Next (node i)) v) (upd B (Next (node i)) v)
  put_next i v =
      let next : (j : ℕ) → put A.next i v j ≡ put B.next i v j = λ j. put_both A.next B.next i v j (r.next j) in
      record { head = r.head; tail = r.tail; next = next; ln = r.ln; lq = r.lq; between = r.between }

  put_tail : (i v : ℕ) → Alike top l q (upd A (Tail (queue i)) v) (upd B (Tail (queue i)) v)
  put_tail i v =
      let tail : (j : ℕ) → put A.tail i v j ≡ put B.tail i v j = λ j. put_both A.tail B.tail i v j (r.tail j) in
      record { head = r.head; tail = tail; next = r.next; ln = r.ln; lq = r.lq; between = r.between }

  put_head : (i v : ℕ) → Alike top l q (upd A (Head (queue i)) v) (upd B (Head (queue i)) v)
  put_head i v =
      let head : (j : ℕ) → put A.head i v j ≡ put B.head i v j = λ j. put_both A.head B.head i v j (r.head j) in
      record { head = head; tail = r.tail; next = r.next; ln = r.ln; lq = r.lq; between = r.between }

  -- the use word is read by neither
  put_freed : (n : Node) → Alike top l q (upd (upd A (Next n) 0) (Use n) 0) (upd (upd B (Next n) 0) (Use n) 0)
  put_freed n =
      let next = (put_next n.0 0).next in
      record { head = r.head; tail = r.tail; next = next; ln = r.ln; lq = r.lq; between = r.between }

  -- ---- the rows, point by point: by the table's invariant k and m are below l where they are looked at

  module _ (f : Frame) (m s : ℕ) (w : Bumped top f.m.0 m) (v : View) where
    pub row_paired : (p : Point) {i : Item} {st : Stack} {b b' : Bool} → Here top q v l (regs f) p i st b b'
        → Paired top l q A B (row p f (level l) (level top)) (row p (twin f m s) (level top) (level (suc top)))
    unfolding row
    row_paired point.E1 h = store (put_ln f.node.0) (on w)
    row_paired point.E2 h = store (put_lq f.queue.0) (enters low f m s w)
    row_paired point.E3 (is_owner a b c (facts.e3 k<l e)) =
        load (r.lq f.k.0 k<l) (λ x. by_eq _ _ (on w) (below_k_holds f m s w point.E7 point.E3))
    row_paired point.E4 (is_owner a b c (facts.e4 e)) = load (r.ln f.k.0 e.below) (λ x. on w)
    row_paired point.E5 (is_owner a b c (facts.e5 e z)) =
        load (r.tail f.queue.0) (λ x. by_eq _ _ (on w) (below_m_holds low (set_m f.k f) s e.below point.E15 point.E13))
    row_paired point.E6 (is_owner a b c (facts.e6 e z)) = store (put_lower f.k.0 0 e.below) (below_k_holds f m s w point.E7 point.E3)
    row_paired point.E7 h = load (r.tail f.queue.0) (λ x. on w)
    row_paired point.E8 h = load (r.next f.c.0) (λ x. walks f m s w point.E9 x)
    row_paired point.E9 h = store (put_next f.c.0 f.node.0) (on w)
    row_paired point.E10 h = load (r.next f.c.0) (λ x. walks f m s w point.E11 x)
    row_paired point.E11 h = store (put_ln f.c.0) (on w)
    row_paired point.E12 h = store (put_tail f.queue.0 f.c.0) (on w)
    row_paired point.E13 (is_owner a b c (facts.e13 e z m<l)) =
        rw (same_m low m<l w)
        (load (r.lq f.m.0 m<l) (λ x. by_eq _ _ (on (below_top low m<l)) (below_m_holds low f s m<l point.E15 point.E13)))
    row_paired point.E14 (is_owner a b c (facts.e14 e z m<l y)) =
        rw (same_m low m<l w)
        (load (r.ln f.m.0 m<l) (λ x. by_eq _ _ (below_m_holds low (set_c x f) s m<l point.E15 point.E13) (on (below_top low m<l))))
    row_paired point.E15 h = load (r.tail f.queue.0) (λ x. on (at_top refl refl))
    row_paired point.E16 (is_owner a b c (facts.e16 e z small y)) =
        load (r.next f.c.0) (λ x. by_eq _ _ (on w) (by_eq _ _ (walked low f m s small w) (on w)))
    row_paired point.E17 h = load (r.next f.p.0) (λ x. on w)
    row_paired point.E18 h = store (put_next f.p.0 f.node.0) (on w)
    row_paired point.E19 h = load (r.next f.c.0) (λ x. walks f m s w point.E20 x)
    row_paired point.E20 h = store (put_next f.c.0 f.r.0) (on w)
    row_paired point.E21 h = load (r.next f.a.0) (λ x. on w)
    row_paired point.E22 h = store (put_next f.a.0 f.node.0) (on w)
    row_paired point.E23 h = load (r.next f.c.0) (λ x. walks f m s w point.E24 x)
    row_paired point.E24 h = store (put_next f.c.0 f.r.0) (on w)
    row_paired point.E25 h = load (r.tail f.queue.0) (λ x. by_eq _ _ (on w) (on w))
    row_paired point.E26 h = store (put_ln f.c.0) (on w)
    row_paired point.E27 h = store (put_tail f.queue.0 f.c.0) (on w)
    row_paired point.E28 h = store (put_lq 0) (on w)
    row_paired point.E29 h = store (put_ln 0) (by_eq _ _ end (on w))
    row_paired point.D1 h = load (r.head f.queue.0) (λ x. on w)
    row_paired point.D2 h = load (r.tail f.queue.0) (λ x. by_eq _ _ end (on w))
    row_paired point.D3 h = load (r.next f.c.0) (λ x. by_eq _ _ end (on w))
    row_paired point.D4 h = load (r.next f.c.0) (λ x. on w)
    row_paired point.D5 h = store (put_head f.queue.0 f.r.0) (by_eq _ _ (on w) (on w))
    row_paired point.D6 h = store (put_next f.c.0 0) (on w)
    row_paired point.D7 h = free
    row_paired Unknown h = absurd (unknown h)
    row_paired point.E3 (facts.is_loose _ h) = elim h [ ]
    row_paired point.E3 (facts.is_mark _ _ h) = elim h [ ]
    row_paired point.E4 (facts.is_loose _ h) = elim h [ ]
    row_paired point.E4 (facts.is_mark _ _ h) = elim h [ ]
    row_paired point.E5 (facts.is_loose _ h) = elim h [ ]
    row_paired point.E5 (facts.is_mark _ _ h) = elim h [ ]
    row_paired point.E6 (facts.is_loose _ h) = elim h [ ]
    row_paired point.E6 (facts.is_mark _ _ h) = elim h [ ]
    row_paired point.E13 (facts.is_loose _ h) = elim h [ ]
    row_paired point.E13 (facts.is_mark _ _ h) = elim h [ ]
    row_paired point.E14 (facts.is_loose _ h) = elim h [ ]
    row_paired point.E14 (facts.is_mark _ _ h) = elim h [ ]
    row_paired point.E16 (facts.is_loose _ h) = elim h [ ]
    row_paired point.E16 (facts.is_mark _ _ h) = elim h [ ]

  pub then_both : {x y : Row} (f g : Frame) → Paired top l q A B x y → Both top l q (then A x f) (then B y g)
  then_both f g (load e h) = rw (← e) (h _)
  then_both f g (store e h) = h
  then_both f g free = end

  pub mem_alike : {x y : Row} → Paired top l q A B x y → Alike top l q (mem_after A x) (mem_after B y)
  mem_alike (load e h) = r
  mem_alike (store e h) = e
  mem_alike (free {n = n}) = put_freed n
