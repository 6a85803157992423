-- The rules by which the stores change the ghost state, each at the top of the stack:
-- a chain is hung into the one below (E9, E18, E22), a cut is closed (E20, E24), a mark moves on (E11, E26), tail moves to a mark
-- (E12, E27).
use Prim.Native.Nat.{ℕ, ◌+◌, ◌≤◌, ◌<◌}
use mathlib.Core.Path.{◌≡◌, refl, sym, ap, ◌∙◌}
use mathlib.Core.Logic.{◌≢◌, ◌⊎◌, inl, inr}
use mathlib.Core.Bool.{Bool, true, false}
use mathlib.Core.List.{List, [], ◌∷◌, ◌++◌, append_assoc, head-eq_of_cons-eq}
use native.Mathlib.Omega.{arith}
use Rattle.words.specs.declared.Word.TheVariants.{Next, Tail}
use Rattle.words.specs.Layout.{node}
use Rattle.lists.specs.Count.{cnt, cnt_self, counts}
use Rattle.lists.specs.Beginning.{Beginning, without, without_append}
use Rattle.state.specs.Mem.{Mem, put, put_same, upd}
use Rattle.table.specs.Frames.{if_eq, go_to, set_c, walk_to}
use Rattle.table.specs.declared.After.TheVariants.{Go}
use Rattle.chains.specs.Member.{Last}
use Rattle.chains.proofs.Members.{differ}
use Rattle.chains.specs.Seg.{Seg, stop, link}
use Rattle.chains.proofs.Links.{seg_put, seg_split, seg_join, seg_head, seg_rest, seg_turn_last, Walk, on, out, walk}
use Rattle.invariant.specs.Ghost.{loose, owner, mark, lists, flight, leaving, follow, origin, start}
use Rattle.invariant.specs.Facts.{Cut}
use Rattle.invariant.specs.Sound.{view}
use Rattle.invariant.proofs.Keep.{keep_all, the_same}
use Rattle.invariant.proofs.Below.{start_own}
use Rattle.invariant.proofs.Turn.{Turn, Ok, by_eq, below_next, Below, Lists, front, HotBelow}

-- a list cut behind c still begins as it did
begins_cut : (s c : ℕ) (pre rest more : List ℕ) → pre ++ c ∷ rest ≡ s ∷ more → (m : List ℕ) × (pre ++ c ∷ [] ≡ s ∷ m)
begins_cut s c [] rest more e = ([], ap (λ y. y ∷ []) (head-eq_of_cons-eq e))
begins_cut s c (y ∷ pre) rest more e = (pre ++ c ∷ [], ap (λ z. z ∷ (pre ++ c ∷ [])) (head-eq_of_cons-eq e))

module _ (T : Turn) where
  open T use {top, q, own, fr, l, st, M, f}

  -- a walk along p ∷ w, at the end of which stands 0: c is its last node, or goes on to a later one
  pub along : {own' : ℕ → ℕ} {front outs w : List ℕ} {p t : ℕ} (x : ℕ) → Seg M.next p (p ∷ w) t → t ≡ 0 → cnt 0 w ≡ 0
      → 0 < cnt f.c.0 (p ∷ w)
      → (Last f.c.0 (p ∷ w) → Ok T own' front outs M (go_to x f))
      → (0 < cnt (M.next f.c.0) (p ∷ w) → Ok T own' front outs M (Go (set_c (M.next f.c.0) f)))
      → Ok T own' front outs M (walk_to x (M.next f.c.0) f)
  unfolding walk_to
  along {own'} {front} {outs} {w} {p} {t} x g e z h end step = by (walk f.c.0 g h)
    where
      by : Walk M.next f.c.0 t (p ∷ w) w
          → Ok T own' front outs M (if_eq (M.next f.c.0) 0 (go_to x f) (Go (set_c (M.next f.c.0) f)))
      by (on k) = by_eq T (λ (i : M.next f.c.0 ≡ 0). absurd (let j : 0 < cnt 0 w = rw i at k in omega arith))
          (λ i. step (simp counts (omega arith)))
      by (out i k) = by_eq T (λ j. end k) (λ j. absurd (j (i ∙ e)))

  -- n's chain n ∷ w is hung behind c, a node of the hot list y below: what stood behind c joins the piece
  pub record Hung (S : List ℕ) (b : Bool) (n c : ℕ) (w pre rest : List ℕ) : Type 0 where
    pub pile : Below T (upd M (Next (node c)) n) S b
    pub stand : Lists T own (upd M (Next (node c)) n) S (pre ++ c ∷ []) (mark n (w ++ rest))
    pub ends : Seg (put M.next c n) n (n ∷ w) 0
    pub hangs : Seg (put M.next c n) (M.next c) rest (follow st)

  pub hang : {b : Bool} {S x y : List ℕ} (n c : ℕ) (pre rest : List ℕ) → y ≡ pre ++ c ∷ rest → HotBelow T y
      → Below T M S b → (s : Lists T own M S x (owner n y)) → Hung S b n c s.hot.more pre rest
  hang {b} {S} {x} {y} n c pre rest e t d s = record {
    pile = below_next T d c n (omega (arith, c_once));
    stand = stand;
    ends = seg_put c n (omega (arith, c_once)) chain;
    hangs = seg_put c n (omega (arith, c_once)) (seg_rest two.2);
  }
    where
      w : List ℕ
      w = s.hot.more

      chain : Seg M.next n (n ∷ w) 0
      chain = rw s.hot.begins at s.hot.linked

      -- c stands once, in the hot list below
      c_once : cnt c S + (cnt c (n ∷ w) + (cnt c pre + (cnt c rest + (cnt c (lists st) + cnt c (flight st))))) ≡ 0
      c_once = rw (sym s.hot.begins) (omega (arith, simp (e, counts) at (s.all c), T.once c))

      n_some : n ≢ 0
      n_some = differ (n ∷ w) (cnt_self n w) (rw (sym s.hot.begins) (omega (arith, s.all 0, T.none)))

      two : (m : ℕ) × Seg M.next (start (M.tail q) st) pre m × Seg M.next m (c ∷ rest) (follow st)
      two = seg_split pre (rw e at t.linked)

      begins : (m : List ℕ) × (pre ++ c ∷ [] ≡ start (M.tail q) st ∷ m)
      begins = begins_cut (start (M.tail q) st) c pre rest t.more (sym e ∙ t.begins)

      stand : Lists T own (upd M (Next (node c)) n) S (pre ++ c ∷ []) (mark n (w ++ rest))
      stand = record {
        hot = record {
          more = begins.0;
          begins = begins.1;
          alone = λ a z. absurd (n_some z);
          linked = seg_join (seg_put c n (omega (arith, c_once)) two.1)
              (link (seg_head two.2) (stop (put_same M.next c n)));
        };
        settled = seg_put c n (omega (arith, c_once)) s.settled;
        all = λ z. simp counts (omega (arith, simp (e, counts) at (s.all z), simp counts at (ap (cnt z) s.hot.begins)));
      }

  -- the cut of the piece p ∷ w behind c is closed with r, on which the rest hangs
  pub record Closed (S x : List ℕ) (b : Bool) (p c r : ℕ) (w : List ℕ) : Type 0 where
    pub pile : Below T (upd M (Next (node c)) r) S b
    pub stand : Lists T own (upd M (Next (node c)) r) S x (mark p w)
    pub whole : Seg (put M.next c r) p (p ∷ w) (follow st)

  pub close : {b : Bool} {S x w : List ℕ} {p r : ℕ} (c : ℕ) (u : Cut M.next p w r (follow st)) → Last c (p ∷ u.block)
      → Below T M S b → Lists T own M S x (mark p w) → Closed S x b p c r w
  close {b} {S} {x} {w} {p} {r} c u e d s = record {
    pile = below_next T d c r (omega (arith, c_once));
    stand = record {
      hot = record {
        more = s.hot.more;
        begins = s.hot.begins;
        alone = s.hot.alone;
        linked = seg_put c r (omega (arith, c_once)) s.hot.linked;
      };
      settled = seg_put c r (omega (arith, c_once)) s.settled;
      all = s.all;
    };
    whole = rw u.whole
        (seg_join (seg_turn_last c r e (omega (arith, c_once)) u.ends) (seg_put c r (omega (arith, c_once)) u.hangs));
  }
    where
      in_block : 0 < cnt c (p ∷ u.block)
      in_block = rw e.1 (simp counts (omega arith))

      c_once : (cnt c (p ∷ u.block) ≤ 1) ×
          (cnt c S + (cnt c x + (cnt c u.rest + (cnt c (lists st) + cnt c (flight st)))) ≡ 0)
      c_once = let a = simp (u.whole, counts) at (s.all c) in let i = simp counts at in_block in
          simp counts (omega (arith, T.once c))

  -- a mark moves on to c, a node of its piece: what stands before c is hot
  pub record Moved (S x : List ℕ) (c : ℕ) (post : List ℕ) : Type 0 where
    pub stand : Lists T own M S x (mark c post)
    pub piece : Seg M.next c (c ∷ post) (follow st)

  pub move_on : {S x w : List ℕ} {p : ℕ} (c : ℕ) (pre post : List ℕ) → p ∷ w ≡ pre ++ c ∷ post
      → Seg M.next p (p ∷ w) (follow st)
      → Lists T own M S x (mark p w) → Moved S (x ++ pre) c post
  move_on {S} {x} {w} {p} c pre post e g s = record {
    stand = record {
      hot = record {
        more = s.hot.more ++ pre;
        begins = ap (λ y. y ++ pre) s.hot.begins;
        alone = λ a z. absurd (c_some z);
        linked = seg_join s.hot.linked (rw m= at two.1);
      };
      settled = s.settled;
      all = λ y. simp counts (omega (arith, simp counts at (s.all y), simp counts at (ap (cnt y) e)));
    };
    piece = rw m= at two.2;
  }
    where
      two : (m : ℕ) × Seg M.next p pre m × Seg M.next m (c ∷ post) (follow st)
      two = seg_split pre (rw e at g)

      m= : two.0 ≡ c
      m= = seg_head two.2

      c_some : c ≢ 0
      c_some = differ (pre ++ c ∷ post) (simp counts (omega arith))
          (rw (sym e) (simp counts (omega (arith, simp counts at (s.all 0), T.none))))

  -- a mark is taken off: its piece is hot
  pub take_off : {S x w : List ℕ} {p : ℕ} → (origin top st ≡ top → follow st ≢ 0) → Seg M.next p (p ∷ w) (follow st)
      → Lists T own M S x (mark p w) → Lists T own M S (x ++ p ∷ w) (loose [] [])
  take_off {S} {x} {w} {p} h g s = record {
    hot = record {
      more = s.hot.more ++ p ∷ w;
      begins = ap (λ y. y ++ p ∷ w) s.hot.begins;
      alone = λ a z. absurd (h a z);
      linked = seg_join s.hot.linked g;
    };
    settled = s.settled;
    all = λ y. simp counts (omega (arith, simp counts at (s.all y)));
  }

  -- tail moves to the mark p: the hot list is settled, and the piece is hot
  pub record Set (S x w : List ℕ) (p : ℕ) : Type 0 where
    pub tail_is : put M.tail f.queue.0 p q ≡ p
    pub pile : Below T (upd M (Tail f.queue) p) (S ++ x) false
    pub stand : Lists T own (upd M (Tail f.queue) p) (S ++ x) (p ∷ w) (loose [] [])
    pub begins : Beginning (front T M S (mark p w)) (front T (upd M (Tail f.queue) p) (S ++ x) (loose [] []))

  pub settle : {S x w : List ℕ} {p : ℕ} → origin top st ≡ top → (follow st ≡ 0 → w ≡ [])
      → Seg M.next p (p ∷ w) (follow st)
      → Below T M S false → Lists T own M S x (mark p w) → Set S x w p
  settle {S} {x} {w} {p} h a g d s = record { tail_is = tail=; pile = pile; stand = stand; begins = begins }
    where
      M' : Mem
      M' = upd M (Tail f.queue) p

      tail= : put M.tail f.queue.0 p q ≡ p
      tail= = rw T.here.queued (put_same M.tail q p)

      pile : Below T (upd M (Tail f.queue) p) (S ++ x) false
      pile = keep_all (view q M S) (view q M' (S ++ x)) fr fr l (lists st ++ flight st) (omega (arith, T.below))
          (λ j m. refl) (λ j m. refl) (λ j m. refl) (λ y m. refl)
          (λ j m n. the_same refl x refl (λ y r. refl)) (omega arith) (λ y. simp counts (omega arith)) (λ r. absurd (no r)) d
        where
          no : (false ≡ true) ⊎ (origin top st ≢ top) → ⊥
          no (inl e) = let c : ◌≡◌ {A = ℕ} 0 1 = cc in omega arith
          no (inr e) = e h

      old : start (M.tail q) st ≡ M.tail q
      old = start_own (omega (arith, T.below)) d h

      new : start (M'.tail q) st ≡ p
      new = start_own (omega (arith, T.below)) pile h ∙ tail=

      stand : Lists T own (upd M (Tail f.queue) p) (S ++ x) (p ∷ w) (loose [] [])
      stand = record {
        hot = record { more = w; begins = ap (λ y. y ∷ w) (sym new); linked = rw new g; alone = λ r z. a z };
        settled = rw tail= (seg_join s.settled (rw old at s.hot.linked));
        all = λ y. simp counts (omega (arith, simp counts at (s.all y)));
      }

      x_is : x ≡ M.tail q ∷ s.hot.more
      x_is = s.hot.begins ∙ ap (λ y. y ∷ s.hot.more) old

      longer : (leaving st ++ (S ++ M.tail q ∷ [])) ++ (s.hot.more ++ p ∷ []) ≡ leaving st ++
          ((S ++ x) ++ M'.tail q ∷ [])
      longer = rw (tail=, x_is) (simp append_assoc)

      begins : Beginning (front T M S (mark p w)) (front T (upd M (Tail f.queue) p) (S ++ x) (loose [] []))
      begins = (
        without q (s.hot.more ++ p ∷ []),
        sym
            (without_append q (leaving st ++ (S ++ M.tail q ∷ [])) (s.hot.more ++ p ∷ [])) ∙ ap (without q) longer,
      )
