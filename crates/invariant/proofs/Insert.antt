-- E17 to E27: the operation's chain is hung behind the first node of an unlinked one, or before a mark; the cut is closed; tail
-- moves on if it stood there.
use Prim.Native.Nat.{ℕ}
use mathlib.Core.Path.{◌≡◌, refl, sym, ap, ◌∙◌}
use mathlib.Core.Logic.{◌≢◌}
use mathlib.Core.Bool.{Bool, true, false}
use mathlib.Core.List.{List, [], ◌∷◌, ◌++◌}
use native.Mathlib.Omega.{arith}
use lib.Dec.{eqb}
use Rattle.lists.specs.Count.{Same, same, apart, same?, cnt_self, counts}
use Rattle.state.specs.Mem.{put_same}
use Rattle.table.specs.Points.{E17, E18, E19, E20, E21, E22, E23, E24, E25, E26, E27, E28}
use Rattle.table.specs.Laws.{point_is}
use Rattle.table.specs.Table.{row}
use Rattle.chains.specs.Member.{Last}
use Rattle.chains.proofs.Members.{last_in, differ, place}
use Rattle.chains.specs.Seg.{Seg, stop}
use Rattle.chains.proofs.Links.{seg_split, seg_nil, seg_rest}
use Rattle.invariant.specs.Ghost.{owner, mark, origin}
use Rattle.invariant.specs.Facts.{behind, before, e17, e18, e21, e22, e19, e20, e23, e24, e25, e26, e27, e28}
use Rattle.invariant.specs.Facts.{is_owner, is_mark, is_done, is_loose}
use Rattle.invariant.proofs.Below.{tail_in}
use Rattle.invariant.proofs.Turn.{Turn, goes_on, by_eq, Case, stay, to, below_ln}
use Rattle.invariant.proofs.Rules.{along, hang, close, move_on, settle}

-- the last of a stretch points to what follows it
last_next : {f : ℕ → ℕ} {s t : ℕ} {xs : List ℕ} (c : ℕ) → Last c xs → Seg f s xs t → f c ≡ t
last_next c e g = seg_nil (seg_rest (seg_split e.0 (rw e.1 at g)).2)

module _ (T : Turn) where
  open T use {top, q, own, fr, l, st, M, f}

  -- ---- behind the first node of an unlinked operation

  pub e17_ok : Case T E17
  unfolding row
  e17_ok at S x _ b _ (is_owner z n t (e17 e a)) d s =
      to T E18 (owner f.node.0 _) refl refl refl (is_owner z n t (e18 e a refl)) d s
  e17_ok at S x _ b _ (is_loose _ h) d s = elim h [ ]
  e17_ok at S x _ _ _ (is_mark _ _ h) d s = elim h [ ]

  pub e18_ok : Case T E18
  unfolding row
  e18_ok at S x _ b _ (is_owner z n t (e18 e (before i j k) r)) d s = absurd k
  e18_ok at S x _ b _ (is_owner z n t (e18 e (behind o i j) r)) d s =
      let k = hang T f.node.0 f.p.0 [] t.more (t.begins ∙ ap (λ y. y ∷ t.more) (sym j)) t d s in
      let w = s.hot.more in
      to T E19 (mark f.node.0 (w ++ t.more)) refl refl refl
      (is_mark z n (e19 o (record { block = w; rest = t.more; whole = refl; ends = k.ends; hangs = rw r k.hangs })
      (cnt_self f.node.0 w))) (rw e at k.pile) k.stand
  e18_ok at S x _ b _ (is_loose _ h) d s = elim h [ ]
  e18_ok at S x _ _ _ (is_mark _ _ h) d s = elim h [ ]

  pub e19_ok : Case T E19
  unfolding row
  e19_ok at S x _ b _ (is_mark {s = p} {w = w} z n (e19 a u h)) d s =
      along T 20 u.ends refl (omega (arith, simp (u.whole, counts) at (s.all 0), T.none)) h
      (λ k. to T E20 (mark p w) refl refl refl (is_mark z n (e20 a u k)) d s)
      (λ k. stay T E19 (mark p w) at refl refl (is_mark z n (e19 a u k)) d s)
  e19_ok at S x _ b _ (is_loose _ h) d s = elim h [ ]
  e19_ok at S x _ b _ (is_owner _ _ _ h) d s = elim h [ ]

  pub e20_ok : Case T E20
  unfolding row
  e20_ok at S x _ b _ (is_mark {s = p} {w = w} z n (e20 a u h)) d s = let k = close T f.c.0 u h d s in
      to T E28 (mark p w) refl refl refl (is_mark z n (e28 (λ o. absurd (a o)) k.whole)) k.pile k.stand
  e20_ok at S x _ b _ (is_loose _ h) d s = elim h [ ]
  e20_ok at S x _ b _ (is_owner _ _ _ h) d s = elim h [ ]

  -- ---- before a mark

  pub e21_ok : Case T E21
  unfolding row
  e21_ok at S x _ b _ (is_owner z n t (e21 e i j k)) d s =
      to T E22 (owner f.node.0 _) refl refl refl
      (is_owner z n t (e22 e i j k (last_next f.a.0 k t.linked ∙ sym i))) d s
  e21_ok at S x _ b _ (is_loose _ h) d s = elim h [ ]
  e21_ok at S x _ _ _ (is_mark _ _ h) d s = elim h [ ]

  pub e22_ok : Case T E22
  unfolding row
  e22_ok at S x _ b _ (is_owner {x = y} z n t (e22 e i j h r)) d s =
      let k = hang T f.node.0 f.a.0 h.0 [] h.1 t d s in
      to T E23 (mark f.node.0 (w ++ [])) refl refl refl
      (is_mark z n (e23 (λ o. j (i ∙ o)) far
      (record { block = w; rest = []; whole = refl; ends = k.ends; hangs = stop (r ∙ i) }) (cnt_self f.node.0 w)))
      (rw e at k.pile) k.stand
    where
      w : List ℕ
      w = s.hot.more

      -- a is in the hot list, and tail in a list below
      far : origin top st ≢ top → f.a.0 ≢ M.tail q
      far o = differ y (last_in f.a.0 y h)
          (omega (arith, simp counts at (s.all (M.tail q)), T.once (M.tail q), tail_in (omega (arith, T.below)) d o))
  e22_ok at S x _ b _ (is_loose _ h) d s = elim h [ ]
  e22_ok at S x _ _ _ (is_mark _ _ h) d s = elim h [ ]

  pub e23_ok : Case T E23
  unfolding row
  e23_ok at S x _ b _ (is_mark {s = p} {w = w} z n (e23 a c u h)) d s =
      along T 24 u.ends refl (omega (arith, simp (u.whole, counts) at (s.all 0), T.none)) h
      (λ k. to T E24 (mark p w) refl refl refl (is_mark z n (e24 a c u k)) d s)
      (λ k. stay T E23 (mark p w) at refl refl (is_mark z n (e23 a c u k)) d s)
  e23_ok at S x _ b _ (is_loose _ h) d s = elim h [ ]
  e23_ok at S x _ b _ (is_owner _ _ _ h) d s = elim h [ ]

  pub e24_ok : Case T E24
  unfolding row
  e24_ok at S x _ b _ (is_mark {s = p} {w = w} z n (e24 a c u h)) d s = let k = close T f.c.0 u h d s in
      to T E25 (mark p w) refl refl refl
      (is_mark z n (e25 a c k.whole
      (rw u.whole (let i = last_in f.c.0 (p ∷ u.block) h in simp counts (omega (arith, simp counts at i))))))
      k.pile k.stand
  e24_ok at S x _ b _ (is_loose _ h) d s = elim h [ ]
  e24_ok at S x _ b _ (is_owner _ _ _ h) d s = elim h [ ]

  -- tail stood at a: then this is the queue's own chain
  pub e25_ok : Case T E25
  unfolding row
  e25_ok at S x _ b _ (is_mark {s = p} {w = w} z n (e25 a c g h)) d s = by_eq T
      (λ i. to T E26 (mark p w) refl refl refl
      (is_mark z n (e26 a (own_chain (eqb (origin top st) top) (same? (origin top st) top) i) g h)) d s)
      (λ i. to T E28 (mark p w) refl refl refl (is_mark z n (e28 (λ o. a) g)) d s)
    where
      own_chain : (t : Bool) → Same (origin top st) top t → M.tail f.queue.0 ≡ f.a.0 → origin top st ≡ top
      own_chain true (same o) i = o
      own_chain false (apart o) i = absurd (c o (sym i ∙ ap M.tail T.here.queued))
  e25_ok at S x _ b _ (is_loose _ h) d s = elim h [ ]
  e25_ok at S x _ b _ (is_owner _ _ _ h) d s = elim h [ ]

  pub e26_ok : Case T E26
  unfolding row
  e26_ok at S x _ b _ (is_mark {s = p} {w = w} z n (e26 a o g h)) d s =
      let i = place f.c.0 (p ∷ w) h in let k = move_on T f.c.0 i.pre i.post i.whole g s in
      to T E27 (mark f.c.0 i.post) refl refl refl (is_mark z (put_same M.ln l f.c.0) (e27 a o k.piece refl))
      (below_ln T d f.c.0) k.stand
  e26_ok at S x _ b _ (is_loose _ h) d s = elim h [ ]
  e26_ok at S x _ b _ (is_owner _ _ _ h) d s = elim h [ ]

  pub e27_ok : Case T E27
  unfolding row
  e27_ok at S x _ b _ (is_mark z n (e27 a o g i)) d s =
      let k = settle T o (λ r. absurd (a r)) (rw i at g) d (rw i at s) in
      goes_on (point_is E28 28 refl) refl refl (is_done z (n ∙ i ∙ sym k.tail_is) o) k.pile k.stand k.begins
  e27_ok at S x _ b _ (is_loose _ h) d s = elim h [ ]
  e27_ok at S x _ b _ (is_owner _ _ _ h) d s = elim h [ ]
