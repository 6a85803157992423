-- What lies below a level stands still while that level works: a pile's facts outlive every change that leaves alone
-- the words of its levels, the next words of its nodes, and tail where a level is not linked in or done.
use Prim.Native.Nat.{ℕ, ◌+◌, ◌≤◌, ◌<◌}
use mathlib.Core.Path.{◌≡◌, refl, sym, ap, ◌∙◌}
use mathlib.Core.Logic.{◌≢◌, ◌⊎◌, inl, inr}
use mathlib.Core.Bool.{Bool, true}
use mathlib.Core.List.{List, [], ◌∷◌, ◌++◌}
use native.Mathlib.Omega.{arith}
use Rattle.words.specs.declared.Frame.{Frame}
use Rattle.lists.specs.Count.{cnt, cnt_self, counts}
use Rattle.table.specs.Points.{Point, point_of}
use Rattle.chains.proofs.Links.{seg_same}
use Rattle.invariant.specs.Ghost.{Item, loose, owner, mark, Stack, push, lists, flight, origin}
use Rattle.invariant.specs.Facts.{Regs, regs, View, Hot, Loose, e1, e2, e28_off, e29, d1, d2, d3, d4, d5, d6, d7}
use Rattle.invariant.specs.Facts.{Highest, Aim, behind, before, Unlinked, e3, e4, e5, e6, e7, e8, e9, e13, e14, e15}
use Rattle.invariant.specs.Facts.{e16, e17, e18, e21, e22, Cut, Linked, e10, e11, e12, e19, e20, e23, e24, e25, e26}
use Rattle.invariant.specs.Facts.{e27, e28, Here, is_loose, is_done, is_owner, is_mark, Works, Pile, bottom, upon}

-- a function reads the goal before its arguments, a constructor does not
pub upon' : {top q : ℕ} {v : View} {fr : ℕ → Frame} {n l : ℕ} {p : Point} {i : Item} {st : Stack} {b b' : Bool}
    → l < n → Works q (fr l) → point_of (fr l).point ≡ p → Here top q v l (regs (fr l)) p i st b b' → Pile top q v fr l st b
    → Pile top q v fr n (push l i st) b'
upon' a b c d e = upon a b c d e

-- ---- a frame that is not registered

-- what becomes of the words that a dequeue below reads: there is none, or it still fetches the same node
pub data Fetches (op : ℕ) (next next' : ℕ → ℕ) (head head' : ℕ) (S S' : List ℕ) : Type 0 where
  no_dequeue : op ≢ 2 → Fetches op next next' head head' S S'
  the_same : head' ≡ head → (more : List ℕ) → S' ≡ S ++ more → ((y : ℕ) → 0 < cnt y S → next' y ≡ next y)
      → Fetches op next next' head head' S S'

module _ {q : ℕ} {next next' : ℕ → ℕ} {head head' : ℕ} {S S' : List ℕ} where
  keep_loose : {ln ln' : ℕ} {p : Point} {g : Regs} {ins outs : List ℕ} → ln' ≡ ln
      → ((y : ℕ) → 0 < cnt y ins → next' y ≡ next y) → Fetches g.op next next' head head' S S'
      → Loose q next ln head S g p ins outs → Loose q next' ln' head' S' g p ins outs
  keep_loose {g = g} e n t (e1 z) = e1 (n g.n (cnt_self g.n []) ∙ z)
  keep_loose {g = g} e n t (e2 z i) = e2 (n g.n (cnt_self g.n []) ∙ z) (e ∙ i)
  keep_loose e n t e28_off = e28_off
  keep_loose e n t e29 = e29
  keep_loose e n t (d1 o) = d1 o
  keep_loose e n (no_dequeue z) (d2 o h) = absurd (z o)
  keep_loose e n (the_same i m s w) (d2 o h) = d2 o (h ∙ sym i)
  keep_loose e n (no_dequeue z) (d3 o h) = absurd (z o)
  keep_loose e n (the_same i m s w) (d3 o h) = d3 o (s ∙ ap (λ t. t ++ m) h)
  keep_loose e n (no_dequeue z) (d4 o h) = absurd (z o)
  keep_loose e n (the_same i m s w) (d4 o h) = d4 o (s ∙ ap (λ t. t ++ m) h)
  keep_loose e n (no_dequeue z) (d5 o h r) = absurd (z o)
  keep_loose {g = g} e n (the_same i m s w) (d5 {R = R} o h r) =
      d5 o (s ∙ ap (λ t. t ++ m) h) (r ∙ sym (w g.c (rw h (cnt_self g.c R))))
  keep_loose e n t (d6 o h) = d6 o h
  keep_loose e n t (d7 o h) = d7 o h

-- ---- a frame that is not linked in

pub keep_hot : {top o s t : ℕ} {next next' : ℕ → ℕ} {x : List ℕ} → ((y : ℕ) → 0 < cnt y x → next' y ≡ next y)
    → Hot top next o s t x → Hot top next' o s t x
keep_hot next= h = record { more = h.more; begins = h.begins; linked = seg_same next= h.linked; alone = h.alone }

-- the words of the levels below l: those registered stay so and show the same node, and the others do not become so
pub record Steady (q l : ℕ) (ln ln' lq lq' : ℕ → ℕ) : Type 0 where
  pub shows : (j : ℕ) → j < l → lq j ≡ q → ln' j ≡ ln j
  pub stays : (j : ℕ) → j < l → lq j ≡ q → lq' j ≡ q
  pub stays_off : (j : ℕ) → j < l → lq j ≢ q → lq' j ≢ q

keep_highest : {q l k : ℕ} {ln ln' lq lq' : ℕ → ℕ} → Steady q l ln ln' lq lq' → Highest lq q k l → Highest lq' q k l
keep_highest {k = k} w h =
    record {
      below = h.below;
      registered = w.stays k h.below h.registered;
      free = λ j a b. w.stays_off j b (h.free j a b);
    }

-- the first node of a chain is in its hot list
pub aim_first : {top o s t p : ℕ} {next : ℕ → ℕ} {x : List ℕ} → Hot top next o s t x → Aim top o s t p ⊥ → 0 < cnt p x
aim_first {s = s} h (behind r t i) = rw (i, h.begins) (cnt_self s h.more)
aim_first h (before i z r) = absurd r

keep_unlinked : {top q l : ℕ} {ln ln' lq lq' next next' : ℕ → ℕ} {tail tail' o s t : ℕ} {x lower : List ℕ} {b : Bool}
    {p : Point} {g : Regs}
    → Steady q l ln ln' lq lq' → ((y : ℕ) → 0 < cnt y x → next' y ≡ next y) → tail' ≡ tail → Hot top next o s t x
    → Unlinked top q l ln lq next tail o s t x lower b g p → Unlinked top q l ln' lq' next' tail' o s t x lower b g p
keep_unlinked w next= tail= o (e3 a h) = e3 a (λ j i k. w.stays_off j k (h j i k))
keep_unlinked w next= tail= o (e4 h) = e4 (keep_highest w h)
keep_unlinked {g = g} w next= tail= o (e5 h e) = e5 (keep_highest w h) (e ∙ sym (w.shows g.k h.below h.registered))
keep_unlinked w next= tail= o (e6 h e) = e6 (keep_highest w h) e
keep_unlinked w next= tail= o (e7 h) = e7 (λ j i. w.stays_off j i (h j i))
keep_unlinked w next= tail= o (e8 h e) = e8 (λ j i. w.stays_off j i (h j i)) (e ∙ sym tail=)
keep_unlinked w next= tail= o (e9 h e) = e9 (λ j i. w.stays_off j i (h j i)) (e ∙ sym tail=)
keep_unlinked w next= tail= o (e13 s a h) = e13 s a h
keep_unlinked {g = g} w next= tail= o (e14 s a h e) = e14 s a h (w.stays g.m h e)
keep_unlinked w next= tail= o (e15 s a) = e15 s a
keep_unlinked w next= tail= o (e16 s a m c) = e16 s a m c
keep_unlinked w next= tail= o (e17 s a) = e17 s a
keep_unlinked {g = g} w next= tail= o (e18 s a e) = e18 s a (e ∙ sym (next= g.p (aim_first o a)))
keep_unlinked w next= tail= o (e21 s e z h) = e21 s e z h
keep_unlinked w next= tail= o (e22 s e z h r) = e22 s e z h r

-- ---- a frame that is linked in

abbrev keep_cut : {next next' : ℕ → ℕ} {p r t : ℕ} {w : List ℕ} → ((y : ℕ) → 0 < cnt y (p ∷ w) → next' y ≡ next y)
    → Cut next p w r t → Cut next' p w r t
keep_cut next= u = record {
  block = u.block;
  rest = u.rest;
  whole = u.whole;
  ends = seg_same (λ y (h : 0 < cnt y (_ ∷ u.block)). next= y
      (rw u.whole (simp counts (omega (arith, simp counts at h))))) u.ends;
  hangs = seg_same (λ y (h : 0 < cnt y u.rest). next= y (rw u.whole (simp counts (omega arith)))) u.hangs;
}

keep_linked : {top : ℕ} {next next' : ℕ → ℕ} {tail tail' o t p : ℕ} {w : List ℕ} {i : Point} {g : Regs}
    → ((y : ℕ) → 0 < cnt y (p ∷ w) → next' y ≡ next y) → (o ≢ top → tail' ≡ tail) → Linked top next tail o t p w g i
    → Linked top next' tail' o t p w g i
keep_linked next= tail= (e10 a b s c) = e10 a b (seg_same next= s) c
keep_linked next= tail= (e11 a b s c) = e11 a b (seg_same next= s) c
keep_linked next= tail= (e12 a b s c d) = e12 a b (seg_same next= s) c d
keep_linked next= tail= (e19 a u c) = e19 a (keep_cut next= u) c
keep_linked next= tail= (e20 a u c) = e20 a (keep_cut next= u) c
keep_linked next= tail= (e23 a b u c) = e23 a (λ z. rw (sym (tail= z)) at (b z)) (keep_cut next= u) c
keep_linked next= tail= (e24 a b u c) = e24 a (λ z. rw (sym (tail= z)) at (b z)) (keep_cut next= u) c
keep_linked next= tail= (e25 a b s c) = e25 a (λ z. rw (sym (tail= z)) at (b z)) (seg_same next= s) c
keep_linked next= tail= (e26 a b s c) = e26 a b (seg_same next= s) c
keep_linked next= tail= (e27 a b s c) = e27 a b (seg_same next= s) c
keep_linked next= tail= (e28 a s) = e28 a (seg_same next= s)

-- ---- the pile

-- what lies below an item counts no more than with it
pub below_item : (j : ℕ) (i : Item) (st : Stack) (y : ℕ)
    → cnt y (lists st) + cnt y (flight st) ≤ cnt y (lists (push j i st)) + cnt y (flight (push j i st))
below_item j (loose ins outs) st y = simp counts (omega arith)
below_item j (owner n x) st y = simp counts (omega arith)
below_item j (mark p w) st y = simp counts (omega arith)

-- where tail matters to what lies below, it matters to the whole
below_tail : {top q j : ℕ} {v : View} {p : Point} {g : Regs} {i : Item} {st : Stack} {b b' : Bool} → j < top
    → Here top q v j g p i st b b'
    → (b ≡ true) ⊎ (origin top st ≢ top) → (b' ≡ true) ⊎ (origin top (push j i st) ≢ top)
below_tail h (is_loose z t) r = r
below_tail h (is_done z e t) r = inl refl
below_tail h (is_owner z e t u) r = inr (omega arith)
below_tail h (is_mark z e t) (inr r) = inr r
below_tail h (is_mark z e t) (inl r) = let c : ◌≡◌ {A = ℕ} 0 1 = cc in absurd (omega arith)

-- from v and fr to v' and fr' nothing moved of the levels below l that is the queue's, nor of the links of the nodes Z, among which
-- are all those of the pile
module _ {top q : ℕ} (v v' : View) (fr fr' : ℕ → Frame) (l : ℕ) (Z : List ℕ) (l≤ : l ≤ top)
    (fr= : (j : ℕ) → j < l → Works q (fr j) → fr' j ≡ fr j) (ln= : (j : ℕ) → j < l → Works q (fr j) → v'.ln j ≡ v.ln j)
    (levels : Steady q l v.ln v'.ln v.lq v'.lq)
    (next= : (y : ℕ) → 0 < cnt y Z → v'.next y ≡ v.next y)
    (fetches : (j : ℕ) → j < l → Works q (fr j)
    → Fetches (fr j).op v.next v'.next v.head v'.head v.settled v'.settled) where
  keep_here : {j : ℕ} {p : Point} {i : Item} {st : Stack} {b b' : Bool} → j < l → Works q (fr j)
      → ((y : ℕ) → cnt y (lists (push j i st)) + cnt y (flight (push j i st)) ≤ cnt y Z)
      → ((b' ≡ true) ⊎ (origin top (push j i st) ≢ top) → v'.tail ≡ v.tail)
      → Here top q v j (regs (fr j)) p i st b b' → Here top q v' j (regs (fr j)) p i st b b'
  keep_here {j} h o sub tail= (is_loose {ins = ins} {outs = outs} z t) =
      is_loose (levels.stays_off j h z)
      (keep_loose (ln= j h o) (λ y (m : 0 < cnt y ins). next= y (omega (arith, simp counts at (sub y))))
      (fetches j h o) t)
  keep_here {j} h o sub tail= (is_done z e r) = is_done (levels.stays j h z) (ln= j h o ∙ e ∙ sym (tail= (inl refl))) r
  keep_here {j} h o sub tail= (is_owner {x = x} z e t u) =
      let tl = tail= (inr (λ (c : j ≡ top). omega arith)) in
      let nx : (y : ℕ) → 0 < cnt y x → v'.next y ≡ v.next y = λ y m. next= y (omega (arith, simp counts at (sub y))) in
      let lower : Steady q j v.ln v'.ln v.lq v'.lq = record {
        shows = λ k i. levels.shows k (omega arith);
        stays = λ k i. levels.stays k (omega arith);
        stays_off = λ k i. levels.stays_off k (omega arith);
      } in
      is_owner (levels.stays j h z) (ln= j h o ∙ e) (rw (sym tl) at (keep_hot nx t))
      (rw (sym tl) at (keep_unlinked lower nx refl t u))
  keep_here {j} h o sub tail= (is_mark {s = s} {w = w} z e t) =
      is_mark (levels.stays j h z) (ln= j h o ∙ e)
      (keep_linked (λ y (m : 0 < cnt y (s ∷ w)). next= y (omega (arith, simp counts at (sub y), simp counts at m)))
      (λ r. tail= (inr r)) t)

  pub keep : {n : ℕ} {st : Stack} {b : Bool} → n ≤ l → ((y : ℕ) → cnt y (lists st) + cnt y (flight st) ≤ cnt y Z)
      → ((b ≡ true) ⊎ (origin top st ≢ top) → v'.tail ≡ v.tail)
      → Pile top q v fr n st b → Pile top q v' fr' n st b
  keep h sub tail= bottom = bottom
  keep h sub tail= (upon {l = j} {i = i} {st = st} a o e t d) =
      let j< : j < l = omega arith in
      upon' a (rw (fr= j j< o) o) (ap (λ f. point_of f.point) (fr= j j< o) ∙ e)
      (rw (fr= j j< o) (keep_here j< o sub tail= t))
      (keep (omega arith) (λ y. omega (arith, sub y, below_item j i st y)) (λ r. tail= (below_tail (omega arith) t r)) d)

-- the same where no word of a lower level moves
pub keep_all : {top q n : ℕ} {st : Stack} {b : Bool} (v v' : View) (fr fr' : ℕ → Frame) (l : ℕ) (Z : List ℕ) → l ≤ top
    → ((j : ℕ) → j < l → fr' j ≡ fr j) → ((j : ℕ) → j < l → v'.ln j ≡ v.ln j) → ((j : ℕ) → j < l → v'.lq j ≡ v.lq j)
    → ((y : ℕ) → 0 < cnt y Z → v'.next y ≡ v.next y)
    → ((j : ℕ) → j < l → Works q (fr j)
    → Fetches (fr j).op v.next v'.next v.head v'.head v.settled v'.settled)
    → n ≤ l → ((y : ℕ) → cnt y (lists st) + cnt y (flight st) ≤ cnt y Z)
    → ((b ≡ true) ⊎ (origin top st ≢ top) → v'.tail ≡ v.tail)
    → Pile top q v fr n st b → Pile top q v' fr' n st b
keep_all v v' fr fr' l Z a fr= ln= lq= next= fetches b c d e = keep v v' fr fr' l Z a (λ j m w. fr= j m) (λ j m w. ln= j m)
    (record { shows = λ j m r. ln= j m; stays = λ j m r. lq= j m ∙ r; stays_off = λ j m r. rw (lq= j m) r }) next= fetches b
    c d e
