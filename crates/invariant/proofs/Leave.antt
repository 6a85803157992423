-- E28, E29 and D1 to D7: an operation takes itself off the queue; a dequeue takes the first settled node out, and hands the
-- sentinel in again.
use Prim.Native.Nat.{ℕ, ◌+◌, ◌<◌}
use mathlib.Core.Path.{◌≡◌, refl, sym, ap, ◌∙◌}
use mathlib.Core.Logic.{◌≢◌}
use mathlib.Core.Bool.{Bool, true, false}
use mathlib.Core.List.{List, [], ◌∷◌, ◌++◌, append-nil}
use native.Mathlib.Omega.{arith}
use lib.Dec.{eqb}
use borrow.Author.Tests.{ne_eqb}
use Rattle.words.specs.declared.Word.TheVariants.{Head, Next}
use Rattle.words.specs.Layout.{level}
use Rattle.lists.specs.Count.{Same, same, apart, same?, cnt, cnt_nil, cnt_self, counts}
use Rattle.lists.specs.Beginning.{Beginning, without, without_self, begins_same}
use Rattle.state.specs.Mem.{put, put_same, put_other, upd}
use Rattle.state.specs.Step.{mem_after, then}
use Rattle.state.specs.Queues.{out_of}
use Rattle.table.specs.Points.{E1, E28, E29, D1, D2, D3, D4, D5, D6, D7, point_of}
use Rattle.table.specs.Laws.{point_is}
use Rattle.table.specs.Table.{row}
use Rattle.chains.proofs.Members.{differ}
use Rattle.chains.specs.Seg.{Seg, stop, link}
use Rattle.chains.proofs.Links.{seg_put, seg_rest, Walk, on, out, walk}
use Rattle.invariant.specs.Ghost.{Item, loose, lists, flight, leaving, origin}
use Rattle.invariant.specs.Facts.{e1, e28_off, e29, d1, d2, d3, d4, d5, d6, d7, e28, is_loose, is_mark, is_done, is_owner}
use Rattle.invariant.specs.Sound.{view}
use Rattle.invariant.proofs.Keep.{keep_all, keep_hot, no_dequeue}
use Rattle.invariant.proofs.Below.{hot_start, tail_in, start_own, none_leaving}
use Rattle.invariant.proofs.Turn.{Turn, Ok, goes_on, has_ended, by_eq, Case, to, below_ln, below_lq, below_next}
use Rattle.invariant.proofs.Turn.{At, Below, Lists, Left, front}
use Rattle.invariant.proofs.Rules.{take_off}

module _ (T : Turn) where
  open T use {top, q, own, fr, l, st, M, f}

  -- ---- off the queue

  off : put M.lq l 0 l ≢ q
  off = rw (put_same M.lq l 0) (omega (arith, T.queued))

  pub e28_ok : Case T E28
  unfolding row
  e28_ok at S x _ b _ (is_mark z n (e28 h g)) d s =
      to T E29 (loose [] []) refl refl refl (is_loose off e29) (below_lq T d 0) (take_off T h g s)
  e28_ok at S x _ b _ (is_done z n o) d s = to T E29 (loose [] []) refl refl refl (is_loose off e29) (below_lq T d 0) s
  e28_ok at S x _ b _ (is_loose z e28_off) d s = to T E29 (loose [] []) refl refl refl (is_loose off e29) (below_lq T d 0) s
  e28_ok at S x _ b _ (is_owner _ _ _ h) d s = elim h [ ]

  -- an item that holds nothing is not missed
  bare : {S x : List ℕ} → Lists T own M S x (loose [] []) → Left T own M S x
  bare s = record { hot = s.hot; settled = s.settled; all = s.all }

  pub e29_ok : Case T E29
  unfolding row
  e29_ok at S x _ b _ (is_loose z e29) d s = by_eq T
      (λ i. has_ended z (below_ln T d 0) (bare s) (begins_same _))
      (λ i. to T D1 (loose [] []) refl refl refl (is_loose z (d1 (omega (arith, T.here)))) (below_ln T d 0) s)
  e29_ok at S x _ b _ (is_owner _ _ _ h) d s = elim h [ ]
  e29_ok at S x _ _ _ (is_mark _ _ h) d s = elim h [ ]

  -- ---- a dequeue

  pub d1_ok : Case T D1
  unfolding row
  d1_ok at S x _ b _ (is_loose z (d1 o)) d s =
      to T D2 (loose [] []) refl refl refl (is_loose z (d2 o (ap M.head T.here.queued))) d s
  d1_ok at S x _ b _ (is_owner _ _ _ h) d s = elim h [ ]
  d1_ok at S x _ _ _ (is_mark _ _ h) d s = elim h [ ]

  -- head is not tail: the first settled node is head
  first_settled : {S : List ℕ} → Seg M.next (M.head q) S (M.tail q) → M.head q ≢ M.tail q
      → (R : List ℕ) × (S ≡ M.head q ∷ R)
  first_settled (stop e) h = absurd (h e)
  first_settled (link {xs = R} e g) h = (R, ap (λ y. y ∷ R) (sym e))

  pub d2_ok : Case T D2
  unfolding row
  d2_ok at S x _ b _ (is_loose z (d2 o e)) d s = by_eq T
      (λ i. has_ended z d (bare s) (begins_same _))
      (λ i. let r = first_settled s.settled (λ j. i (ap M.tail T.here.queued ∙ sym j ∙ sym e)) in
      to T D3 (loose [] []) refl refl refl (is_loose z (d3 o (r.1 ∙ ap (λ y. y ∷ r.0) (sym e)))) d s)
  d2_ok at S x _ b _ (is_owner _ _ _ h) d s = elim h [ ]
  d2_ok at S x _ _ _ (is_mark _ _ h) d s = elim h [ ]

  -- tail is a node
  tail_some : {S x : List ℕ} {b : Bool} → Below T M S b → Lists T own M S x (loose [] []) → M.tail q ≢ 0
  tail_some {S} {x} d s = by (eqb (origin top st) top) (same? (origin top st) top)
    where
      by : (t : Bool) → Same (origin top st) top t → M.tail q ≢ 0
      by true (same o) = differ x (rw (start_own (omega (arith, T.below)) d o) at (hot_start s.hot))
          (omega (arith, s.all 0, T.none))
      by false (apart o) = differ (lists st) (tail_in (omega (arith, T.below)) d o) (omega (arith, s.all 0, T.none))

  -- c is settled and not tail, so its link leads to a settled node or to tail: D3 never ends a dequeue
  pub d3_goes_on : {S x : List ℕ} {i : Item} {b b' : Bool} → At T M S f D3 i b b' → Below T M S b → Lists T own M S x i
      → M.next f.c.0 ≢ 0
  d3_goes_on (is_loose z (d3 {R = R} o e)) d s i = by (walk f.c.0 (rw e at s.settled) (cnt_self f.c.0 R))
    where
      by : Walk M.next f.c.0 (M.tail q) (f.c.0 ∷ R) R → ⊥
      by (on k) = let j : 0 < cnt 0 R = rw i at k in omega (arith, simp (e, counts) at (s.all 0), T.none)
      by (out j k) = tail_some d s (sym j ∙ i)
  d3_goes_on (is_owner _ _ _ h) d s i = elim h [ ]
  d3_goes_on (is_mark _ _ h) d s i = elim h [ ]

  pub d3_ok : Case T D3
  unfolding row
  d3_ok at S x _ b _ (is_loose z (d3 o e)) d s =
      by_eq T (λ i. absurd (d3_goes_on (is_loose z (d3 o e)) d s i))
      (λ i. to T D4 (loose [] []) refl refl refl (is_loose z (d4 o e)) d s)
  d3_ok at S x _ b _ (is_owner _ _ _ h) d s = elim h [ ]
  d3_ok at S x _ _ _ (is_mark _ _ h) d s = elim h [ ]

  pub d4_ok : Case T D4
  unfolding row
  d4_ok at S x _ b _ (is_loose z (d4 o e)) d s = to T D5 (loose [] []) refl refl refl (is_loose z (d5 o e refl)) d s
  d4_ok at S x _ b _ (is_owner _ _ _ h) d s = elim h [ ]
  d4_ok at S x _ _ _ (is_mark _ _ h) d s = elim h [ ]

  -- head moves on: the first settled node is in flight, the sentinel to come in again, any other to go out
  module _ {S R x : List ℕ} {b : Bool} (o : f.op ≡ 2) (e : S ≡ f.c.0 ∷ R) (r : f.r.0 ≡ M.next f.c.0)
      (d : Below T M S b)
      (s : Lists T own M S x (loose [] [])) where
    pile : Below T (upd M (Head f.queue) f.r.0) R b
    pile = keep_all (view q M S) (view q (upd M (Head f.queue) f.r.0) R) fr fr l (lists st ++ flight st)
        (omega (arith, T.below)) (λ j m. refl) (λ j m. refl) (λ j m. refl) (λ y m. refl)
        (λ j m n. no_dequeue (T.alone o j m n)) (omega arith) (λ y. simp counts (omega arith)) (λ k. refl) d

    head= : put M.head f.queue.0 f.r.0 q ≡ M.next f.c.0
    head= = rw T.here.queued (put_same M.head q f.r.0) ∙ r

    taken : (ins outs : List ℕ) → ((y : ℕ) → cnt y ins + cnt y outs ≡ cnt y (f.c.0 ∷ []))
        → Lists T own (upd M (Head f.queue) f.r.0) R x (loose ins outs)
    taken ins outs h = record {
      hot = s.hot;
      settled = rw head= (seg_rest (rw e at s.settled));
      all = λ y. simp counts (omega (arith, simp (e, counts) at (s.all y), simp counts at (h y)));
    }

    none_out : leaving st ≡ []
    none_out = none_leaving d (T.alone o)

    front_then : (outs : List ℕ) → without q (f.c.0 ∷ (R ++ M.tail q ∷ [])) ≡ without q (outs ++ (R ++ M.tail q ∷ []))
        → Beginning (front T M S (loose [] [])) (front T (upd M (Head f.queue) f.r.0) R (loose [] outs))
    front_then outs h = rw (none_out, e, append-nil outs) ([], append-nil _ ∙ h)

  pub d5_ok : Case T D5
  unfolding row
  d5_ok at S x _ b _ (is_loose z (d5 {R = R} o e r)) d s = by_eq T
      (λ i. goes_on (point_is D6 36 refl) refl refl (is_loose z (d6 o (i ∙ T.here.queued))) (pile o e r d s)
      (taken o e r d s (f.c.0 ∷ []) [] (λ y. omega (arith, cnt_nil y)))
      (front_then o e r d s [] (rw (i ∙ T.here.queued) (without_self q (R ++ M.tail q ∷ [])))))
      (λ i. goes_on (point_is D7 37 refl) refl refl (is_loose z (d7 o (λ j. i (j ∙ sym T.here.queued)))) (pile o e r d s)
      (taken o e r d s [] (f.c.0 ∷ []) (λ y. omega (arith, cnt_nil y)))
      (front_then o e r d s (f.c.0 ∷ []) refl))
  d5_ok at S x _ b _ (is_owner _ _ _ h) d s = elim h [ ]
  d5_ok at S x _ _ _ (is_mark _ _ h) d s = elim h [ ]

  -- a node in flight gets next 0: nothing of the lists moves
  module _ {S x ins outs : List ℕ} {b : Bool} (h : 0 < cnt f.c.0 ins + cnt f.c.0 outs) (d : Below T M S b)
      (s : Lists T own M S x (loose ins outs)) where
    c_once : cnt f.c.0 S + (cnt f.c.0 x + (cnt f.c.0 (lists st) + cnt f.c.0 (flight st))) ≡ 0
    c_once = omega (arith, simp counts at (s.all f.c.0), T.once f.c.0)

    pile_0 : Below T (upd M (Next f.c) 0) S b
    pile_0 = below_next T d f.c.0 0 (omega (arith, c_once))

    stand_0 : Lists T own (upd M (Next f.c) 0) S x (loose ins outs)
    stand_0 = record {
      hot = keep_hot (λ y (m : 0 < cnt y x). put_other M.next f.c.0 0 y
          (λ i. let j : cnt y x ≡ 0 = rw i (omega (arith, c_once)) in omega arith)) s.hot;
      settled = seg_put f.c.0 0 (omega (arith, c_once)) s.settled;
      all = s.all;
    }

  pub d6_ok : Case T D6
  unfolding row
  d6_ok at S x _ b _ (is_loose z (d6 o e)) d s =
      to T E1 (loose (f.queue.0 ∷ []) []) refl refl refl (is_loose z (e1 (rw (sym c=) (put_same M.next f.c.0 0))))
      (pile_0 in_flight d s)
      (record { hot = t.hot; settled = t.settled; all = λ y. rw (sym c=) (t.all y) })
    where
      c= : f.c.0 ≡ f.queue.0
      c= = e ∙ sym T.here.queued

      in_flight : 0 < cnt f.c.0 (f.c.0 ∷ []) + cnt f.c.0 []
      in_flight = simp counts (omega arith)

      t : Lists T own (upd M (Next f.c) 0) S x (loose (f.c.0 ∷ []) [])
      t = stand_0 in_flight d s
  d6_ok at S x _ b _ (is_owner _ _ _ h) d s = elim h [ ]
  d6_ok at S x _ _ _ (is_mark _ _ h) d s = elim h [ ]

  without_other : (x : ℕ) (xs : List ℕ) → x ≢ q → without q (x ∷ xs) ≡ x ∷ without q xs
  unfolding without
  without_other x xs h = rw (ne_eqb x q h)

  -- the node goes out: the queue has one node less
  pub d7_ok : (own' : ℕ → ℕ) → ((y : ℕ) → own y ≡ cnt y (f.c.0 ∷ []) + own' y) → point_of f.point ≡ D7
      → (S x : List ℕ) (i : Item) (b b' : Bool)
      → At T M S f D7 i b b' → Below T M S b → Lists T own M S x i
      → Ok T own' (front T M S i) (out_of (row D7 f (level l) (level top))) (mem_after M (row D7 f (level l) (level top)))
      (then M (row D7 f (level l) (level top)) f)
  unfolding row
  d7_ok own' less at S x _ b _ (is_loose z (d7 o e)) d s =
      has_ended z (pile_0 in_flight d s)
      (record {
        hot = t.hot;
        settled = t.settled;
        all = λ y. omega (arith, simp counts at (t.all y), simp counts at (less y));
      })
      (rw (without_other f.c.0 (leaving st ++ (S ++ M.tail q ∷ [])) e) (begins_same _))
    where
      in_flight : 0 < cnt f.c.0 [] + cnt f.c.0 (f.c.0 ∷ [])
      in_flight = simp counts (omega arith)

      t : Lists T own (upd M (Next f.c) 0) S x (loose [] (f.c.0 ∷ []))
      t = stand_0 in_flight d s
  d7_ok own' less at S x _ b _ (is_owner _ _ _ h) d s = elim h [ ]
  d7_ok own' less at S x _ _ _ (is_mark _ _ h) d s = elim h [ ]
