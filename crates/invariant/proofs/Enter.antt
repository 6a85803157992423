-- E1 to E6: an operation registers, and looks for the highest registered level below it; one whose work is done it takes off the queue.
use Prim.Native.Nat.{ℕ, ◌-◌, ◌≤◌, ◌<◌}
use mathlib.Core.Path.{◌≡◌, refl, sym, ◌∙◌}
use mathlib.Core.Logic.{◌≢◌}
use mathlib.Core.Bool.{Bool, true, false}
use mathlib.Core.List.{[], ◌∷◌}
use native.Mathlib.Omega.{arith}
use lib.Dec.{eqb}
use Rattle.words.specs.Layout.{level}
use Rattle.lists.specs.Count.{Same, same, apart, same?, counts}
use Rattle.state.specs.Mem.{put, put_same, put_other}
use Rattle.state.specs.Step.{mem_after, then}
use Rattle.table.specs.Points.{E1, E2, E3, E4, E5, E6, E7, E13, E15}
use Rattle.table.specs.Frames.{below_k_to, below_m_to}
use Rattle.table.specs.Table.{row}
use Rattle.chains.specs.Seg.{stop, link}
use Rattle.invariant.specs.Ghost.{loose, owner, push, follow, origin, start}
use Rattle.invariant.specs.Facts.{e1, e2, Free, Aim, behind, before, NotPast, e3, e4, e5, e6, e7, e13, e15}
use Rattle.invariant.specs.Facts.{is_loose, is_owner, is_mark}
use Rattle.invariant.specs.Sound.{Stand}
use Rattle.invariant.proofs.Below.{hot_start, Shown, at_owner, at_mark, at_done, shown, taken_off}
use Rattle.invariant.proofs.Turn.{Turn, Ok, by_eq, Case, to, below_ln, below_lq, Below, front}

-- k itself is not registered either
free_down : {q k l : ℕ} {lq : ℕ → ℕ} → lq k ≢ q → Free lq q k l → (j : ℕ) → k ≤ j → j < l → lq j ≢ q
free_down {q} {k} {l} {lq} z h j a b = by (eqb j k) (same? j k)
  where
    by : (t : Bool) → Same j k t → lq j ≢ q
    by true (same e) = rw e z
    by false (apart e) = h j (omega arith) b

-- k is taken off
free_put : {q k l : ℕ} (lq : ℕ → ℕ) → 1 ≤ q → Free lq q k l → (j : ℕ) → k ≤ j → j < l → put lq k 0 j ≢ q
free_put {q} {k} lq p h =
    free_down (rw (put_same lq k 0) (omega arith)) (λ j a b. rw (put_other lq k 0 j (omega arith)) (h j a b))

module _ (T : Turn) where
  open T use {top, q, own, fr, l, st, M, f}

  pub e1_ok : Case T E1
  unfolding row
  e1_ok at S x _ b _ (is_loose z (e1 h)) d s =
      to T E2 (loose (f.node.0 ∷ []) []) refl refl refl (is_loose z (e2 h (put_same M.ln l f.node.0)))
      (below_ln T d f.node.0) s
  e1_ok at S x _ b _ (is_owner _ _ _ h) d s = elim h [ ]
  e1_ok at S x _ _ _ (is_mark _ _ h) d s = elim h [ ]

  pub e2_ok : Case T E2
  unfolding row below_k_to
  e2_ok at S x _ b _ (is_loose z (e2 h n)) d s = by_eq T
      (λ e. to T E7 (owner f.node.0 x) refl refl refl (is_owner lq= n s.hot (e7 (λ j m. absurd (omega arith))))
      (below_lq T d f.queue.0) alone)
      (λ e. to T E3 (owner f.node.0 x) refl refl refl
      (is_owner lq= n s.hot (e3 (omega arith) (λ j a c. absurd (omega arith)))) (below_lq T d f.queue.0) alone)
    where
      lq= : put M.lq l f.queue.0 l ≡ q
      lq= = put_same M.lq l f.queue.0 ∙ T.here.queued

      alone : Stand top own M.next (M.head q) (M.tail q) S (f.node.0 ∷ []) (push l (owner f.node.0 x) st)
      alone = record {
        hot = record { more = []; begins = refl; linked = link refl (stop h); alone = λ a c. refl };
        settled = s.settled;
        all = λ y. simp counts (omega (arith, simp counts at (s.all y)));
      }
  e2_ok at S x _ b _ (is_owner _ _ _ h) d s = elim h [ ]
  e2_ok at S x _ _ _ (is_mark _ _ h) d s = elim h [ ]

  pub e3_ok : Case T E3
  unfolding row below_k_to
  e3_ok at S x _ b _ (is_owner z n t (e3 k h)) d s = by_eq T
      (λ e. to T E4 (owner f.node.0 _) refl refl refl
      (is_owner z n t (e4 (record { below = k; registered = e ∙ T.here.queued; free = h }))) d s)
      (λ e. let off : M.lq f.k.0 ≢ q = rw T.here.queued at e in by_eq T
      (λ i. to T E7 (owner f.node.0 _) refl refl refl
      (is_owner z n t (e7 (λ j m. free_down off h j (omega arith) m))) d s)
      (λ i. to T E3 (owner f.node.0 _) refl refl refl
      (is_owner z n t (e3 (omega arith) (λ j a c. free_down off h j (omega arith) c))) d s))
  e3_ok at S x _ b _ (is_loose _ h) d s = elim h [ ]
  e3_ok at S x _ _ _ (is_mark _ _ h) d s = elim h [ ]

  pub e4_ok : Case T E4
  unfolding row
  e4_ok at S x _ b _ (is_owner z n t (e4 h)) d s =
      to T E5 (owner f.node.0 _) refl refl refl (is_owner z n t (e5 h refl)) d s
  e4_ok at S x _ b _ (is_loose _ h) d s = elim h [ ]
  e4_ok at S x _ _ _ (is_mark _ _ h) d s = elim h [ ]

  pub e5_ok : Case T E5
  unfolding row below_m_to
  e5_ok at S x _ b _ (is_owner {x = y} z n t (e5 h e)) d s =
      by b d (shown y (omega (arith, T.below)) d h (T.listed f.k.0 h.below h.registered) (hot_start t)
      (λ w. omega (arith, simp counts at (s.all w), T.once w)) (omega (arith, simp counts at (s.all 0), T.none)))
    where
      k : ℕ
      k = f.k.0

      o : ℕ
      o = origin top st

      Next : Type 0
      Next = Ok T own (front T M S (owner f.node.0 y)) [] (mem_after M (row E5 f (level l) (level top)))
          (then M (row E5 f (level l) (level top)) f)

      -- E13 or E15, the search
      search : (d : Below T M S false) → (k ≡ 0 → Aim top o (start (M.tail q) st) (follow st) f.p.0 (o ≡ top))
          → (k ≢ 0 → Aim top o (start (M.tail q) st) (follow st) f.p.0 (NotPast top o (k - 1))) → f.p.0 ≢ M.tail q
          → Next
      search d a c ne = by_eq T (λ i. absurd (ne (sym (rw T.here.queued at i))))
          (λ i. by_eq T
          (λ j. to T E15 (owner f.node.0 y) refl refl refl (is_owner z n t (e15 refl (a j))) d s)
          (λ j. to T E13 (owner f.node.0 y) refl refl refl
          (is_owner z n t (e13 refl (c j) (omega (arith, h.below)))) d s))

      by : (b : Bool) (d : Below T M S b) → Shown top (M.tail q) o (start (M.tail q) st) (follow st) k (M.ln k) b → Next
      by _ d (at_owner a r i ne) = search d (λ j. behind a r (e ∙ i)) (λ j. behind a r (e ∙ i)) (λ j. ne (sym e ∙ j))
      by _ d (at_mark i ne a tl) =
          search d (λ j. before (e ∙ i) (λ w. ne (sym e ∙ w)) (own_chain j))
          (λ j. before (e ∙ i) (λ w. ne (sym e ∙ w)) (λ r. omega (arith, a r))) (λ j. tl (sym e ∙ j))
        where
          own_chain : k ≡ 0 → o ≡ top
          own_chain j = test (eqb o top) (same? o top)
            where
              test : (t : Bool) → Same o top t → o ≡ top
              test true (same r) = r
              test false (apart r) = absurd (omega (arith, a r))
      by _ d (at_done i) = by_eq T (λ j. to T E6 (owner f.node.0 y) refl refl refl (is_owner z n t (e6 h refl)) d s)
          (λ j. absurd (j (rw T.here.queued (sym (e ∙ i)))))
  e5_ok at S x _ b _ (is_loose _ h) d s = elim h [ ]
  e5_ok at S x _ _ _ (is_mark _ _ h) d s = elim h [ ]

  pub e6_ok : Case T E6
  unfolding row below_k_to
  e6_ok at S x _ b _ (is_owner {x = y} z n t (e6 h e)) d s =
      let d' = taken_off (omega (arith, T.below)) T.queued (rw e at d) h
      (T.listed f.k.0 h.below h.registered) in
      by_eq T
      (λ i. to T E7 (owner f.node.0 y) refl refl refl
      (is_owner lq= n t (e7 (λ j m. free_put M.lq T.queued h.free j (omega arith) m))) d' s)
      (λ i. to T E3 (owner f.node.0 y) refl refl refl
      (is_owner lq= n t (e3 (omega (arith, h.below))
      (λ j a c. free_put M.lq T.queued h.free j (omega arith) c))) d' s)
    where
      lq= : put M.lq f.k.0 0 l ≡ q
      lq= = put_other M.lq f.k.0 0 l (omega (arith, h.below)) ∙ z
  e6_ok at S x _ b _ (is_loose _ h) d s = elim h [ ]
  e6_ok at S x _ _ _ (is_mark _ _ h) d s = elim h [ ]
