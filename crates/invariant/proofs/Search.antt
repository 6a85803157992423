-- E13 to E16: the search for the node before a mark. It goes down the registered levels, from what each of them shows along its
-- links, and at last from tail.
-- A walk that begins at the owner of the mark's chain, or at tail in the queue's own chain, passes the hot list and finds the
-- place; to the first node of a chain nothing leads.
use Prim.Native.Nat.{ℕ, ◌+◌, ◌≤◌, ◌<◌}
use mathlib.Core.Path.{◌≡◌, refl, sym, ap, ◌∙◌}
use mathlib.Core.Logic.{◌≢◌, ◌⊎◌, inl, inr}
use mathlib.Core.Bool.{Bool, true, false}
use mathlib.Core.List.{List, [], ◌∷◌, ◌++◌}
use native.Mathlib.Omega.{arith}
use lib.Dec.{eqb}
use Rattle.lists.specs.Count.{Same, same, apart, same?, cnt, counts}
use Rattle.table.specs.Points.{E13, E14, E15, E16, E17, E21}
use Rattle.table.specs.Frames.{below_m_to, go_to, set_a}
use Rattle.table.specs.Table.{row}
use Rattle.table.specs.declared.After.{After}
use Rattle.chains.specs.Member.{Last}
use Rattle.chains.proofs.Members.{either, differ}
use Rattle.chains.proofs.Links.{Walk, on, out, walk}
use Rattle.invariant.specs.Ghost.{owner, lists, follow, origin, start}
use Rattle.invariant.specs.Facts.{Aim, behind, before, NotPast, Walking, e13, e14, e15, e16, e17, e21, is_owner, is_loose, is_mark}
use Rattle.invariant.proofs.Below.{hot_start, start_own, start_owned, tail_in, origin_registered, Leads, leads}
use Rattle.invariant.proofs.Below.{inner, inner_lists, inner_follow, shows}
use Rattle.invariant.proofs.Turn.{Turn, Ok, by_eq, Case, stay, to, Below, Lists, front, HotBelow}

-- the aim with another fact of the search
aim_map : {top o s t p : ℕ} {P R : Type 0} → (p ≡ t → p ≢ 0 → P → R) → Aim top o s t p P → Aim top o s t p R
aim_map h (behind a b c) = behind a b c
aim_map h (before a b c) = before a b (h a b c)

module _ (T : Turn) where
  open T use {top, q, own, fr, l, st, M, f}

  module _ {S x y : List ℕ} (z : M.lq l ≡ q) (n : M.ln l ≡ f.node.0) (t : HotBelow T y)
      (d : Below T M S false) (s : Lists T own M S x (owner f.node.0 y)) where
    abbrev Then : After → Type 0
    Then a = Ok T own (front T M S (owner f.node.0 y)) [] M a

    -- the counts of what lies below
    once : (c : ℕ) → cnt c y + cnt c (lists st) ≤ 1
    once c = omega (arith, simp counts at (s.all c), T.once c)

    none : cnt 0 y + cnt 0 (lists st) ≡ 0
    none = omega (arith, simp counts at (s.all 0), T.none)

    -- from level m downwards: E13 at the next lower level, or E15
    lower : Aim top (origin top st) (start (M.tail q) st) (follow st) f.p.0
        (origin top st ≢ top → origin top st < f.m.0) → f.m.0 < l → Then (below_m_to 15 13 f)
    unfolding below_m_to
    lower a m = by_eq T
        (λ i. to T E15 (owner f.node.0 y) refl refl refl
        (is_owner z n t (e15 refl
        (aim_map (λ e k h. own_chain i h (eqb (origin top st) top) (same? (origin top st) top)) a))) d s)
        (λ i. to T E13 (owner f.node.0 y) refl refl refl
        (is_owner z n t (e13 refl (aim_map (λ e k h r. omega (arith, h r)) a) (omega arith))) d s)
      where
        own_chain : f.m.0 ≡ 0 → (origin top st ≢ top → origin top st < f.m.0) → (b : Bool) → Same (origin top st) top b
            → origin top st ≡ top
        own_chain i h true (same e) = e
        own_chain i h false (apart e) = absurd (omega (arith, h e))

  pub e13_ok : Case T E13
  unfolding row
  e13_ok at S x _ b _ (is_owner {x = y} z n t (e13 e a m)) d s = by_eq T
      (λ i. to T E14 (owner f.node.0 y) refl refl refl (is_owner z n t (e14 e a m (i ∙ T.here.queued))) d s)
      (λ i. lower z n t (rw e at d) s (aim_map (λ r k h. above i h) a) m)
    where
      above : M.lq f.m.0 ≢ f.queue.0 → NotPast top (origin top st) f.m.0 → origin top st ≢ top
          → origin top st < f.m.0
      above i h g =
          let k = h g in
          let ne : origin top st ≢ f.m.0 = λ j. i (ap M.lq (sym j) ∙ origin_registered d g ∙ sym T.here.queued) in
          omega arith
  e13_ok at S x _ b _ (is_loose _ h) d s = elim h [ ]
  e13_ok at S x _ _ _ (is_mark _ _ h) d s = elim h [ ]

  pub e14_ok : Case T E14
  unfolding row
  e14_ok at S x _ b _ (is_owner {x = y} z n t (e14 e a m r)) d s =
      by_eq T (λ i. absurd (differ (y ++ lists st) live (simp counts (omega (arith, none z n t (rw e at d) s))) i))
      (λ i. to T E16 (owner f.node.0 y) refl refl refl
      (is_owner z n t (e16 e (aim_map (λ j k h. walking h) a) (λ j. m) live)) d s)
    where
      live : 0 < cnt (M.ln f.m.0) (y ++ lists st)
      live = shows f.m.0 y (omega (arith, T.below)) d (hot_start t) r (T.listed f.m.0 m r)

      walking : NotPast top (origin top st) f.m.0 → Walking top (origin top st) f.m.0 (M.ln f.m.0) y
      walking h = record {
        here = λ j. rw (ap M.ln j ∙ start_owned d (λ k. omega (arith, T.below))) (hot_start t);
        above = h;
        more = λ g k. omega (arith, T.below);
      }
  e14_ok at S x _ b _ (is_loose _ h) d s = elim h [ ]
  e14_ok at S x _ _ _ (is_mark _ _ h) d s = elim h [ ]

  pub e15_ok : Case T E15
  unfolding row
  e15_ok at S x _ b _ (is_owner {x = y} z n t (e15 e a)) d s =
      to T E16 (owner f.node.0 y) refl refl refl
      (is_owner z n t (e16 e (aim_map (λ j k h. walking h) a) (λ j. absurd (j refl))
      (live (eqb (origin top st) top) (same? (origin top st) top)))) d s
    where
      tail= : M.tail f.queue.0 ≡ M.tail q
      tail= = ap M.tail T.here.queued

      in_hot : origin top st ≡ top → 0 < cnt (M.tail f.queue.0) y
      in_hot h = rw (tail= ∙ sym (start_own (omega (arith, T.below)) d h)) (hot_start t)

      live : (b : Bool) → Same (origin top st) top b → 0 < cnt (M.tail f.queue.0) (y ++ lists st)
      live true (same h) = simp counts (omega (arith, in_hot h))
      live false (apart h) = rw tail= (simp counts (omega (arith, tail_in (omega (arith, T.below)) d h)))

      walking : origin top st ≡ top → Walking top (origin top st) top (M.tail f.queue.0) y
      walking h = record { here = λ j. in_hot h; above = λ g. absurd (g h); more = λ g. absurd (g h) }
  e15_ok at S x _ b _ (is_loose _ h) d s = elim h [ ]
  e15_ok at S x _ _ _ (is_mark _ _ h) d s = elim h [ ]

  -- where the link of a node that the walk stands on leads: on in the hot list, out of it at its end, or within the lists below
  data Onward (c : ℕ) (y more : List ℕ) : Type 0 where
    in_hot : 0 < cnt (M.next c) more → Onward c y more
    at_end : M.next c ≡ follow st → Last c y → Onward c y more
    in_lists : 0 < cnt c (lists st) → Leads (M.next c) (inner st) → Onward c y more

  module _ {S x y : List ℕ} (z : M.lq l ≡ q) (n : M.ln l ≡ f.node.0) (t : HotBelow T y)
      (d : Below T M S false) (s : Lists T own M S x (owner f.node.0 y)) where
    onward : (c : ℕ) → 0 < cnt c (y ++ lists st) → Onward c y t.more
    onward c h = by (either c y (lists st) h)
      where
        hot : Walk M.next c (follow st) (start (M.tail q) st ∷ t.more) t.more → Onward c y t.more
        hot (on k) = in_hot k
        hot (out e k) = at_end e (rw t.begins k)

        by : (0 < cnt c y) ⊎ (0 < cnt c (lists st)) → Onward c y t.more
        by (inl k) = hot (walk c (rw t.begins at t.linked) (rw t.begins at k))
        by (inr k) = in_lists k (leads c d k)

    -- the nodes of the hot list behind its first
    more_in : (c : ℕ) → cnt c t.more ≤ cnt c y
    more_in c = rw t.begins (simp counts (omega arith))

    -- nothing leads to the first node of the chain
    to_first : (c : ℕ) → Onward c y t.more → follow st ≡ 0 → M.next c ≢ start (M.tail q) st
    to_first c (in_hot k) e i = let j : 0 < cnt (start (M.tail q) st) t.more = rw i at k in
        omega (arith, once z n t d s (start (M.tail q) st), simp counts at (ap (cnt (start (M.tail q) st)) t.begins))
    to_first c (at_end j k) e i = differ y (hot_start t) (omega (arith, none z n t d s)) (sym i ∙ j ∙ e)
    to_first c (in_lists j (inl k)) e i = differ y (hot_start t) (omega (arith, none z n t d s)) (sym i ∙ k)
    to_first c (in_lists j (inr k)) e i = let r : 0 < cnt (start (M.tail q) st) (inner st) = rw i at k in
        omega (arith, once z n t d s (start (M.tail q) st), hot_start t, inner_lists st (start (M.tail q) st))

    -- to the mark only the last of the hot list leads
    to_mark : (c : ℕ) → Onward c y t.more → follow st ≢ 0 → M.next c ≡ follow st → Last c y
    to_mark c (at_end j k) e i = k
    to_mark c (in_hot k) e i = let r : 0 < cnt (follow st) t.more = rw i at k in
        absurd (omega (arith, once z n t d s (follow st), inner_follow st e, more_in (follow st)))
    to_mark c (in_lists j (inl k)) e i = absurd (e (sym i ∙ k))
    to_mark c (in_lists j (inr k)) e i = let r : 0 < cnt (follow st) (inner st) = rw i at k in
        absurd (omega (arith, once z n t d s (follow st), inner_follow st e))

    -- a link that goes on leads into the lists
    goes_live : (c : ℕ) → Onward c y t.more → M.next c ≢ 0 → 0 < cnt (M.next c) (y ++ lists st)
    goes_live c (in_hot k) h = simp counts (omega (arith, more_in (M.next c)))
    goes_live c (at_end j k) h = rw j (simp counts (omega (arith, inner_follow st (λ e. h (j ∙ e)))))
    goes_live c (in_lists j (inl k)) h = absurd (h k)
    goes_live c (in_lists j (inr k)) h = simp counts (omega (arith, inner_lists st (M.next c)))

    -- from a node of the hot list a walk goes on in it, up to the mark
    hot_goes : (c : ℕ) → Onward c y t.more → 0 < cnt c y → M.next c ≢ follow st → 0 < cnt (M.next c) y
    hot_goes c (in_hot k) h e = omega (arith, more_in (M.next c))
    hot_goes c (at_end j k) h e = absurd (e j)
    hot_goes c (in_lists j k) h e = absurd (omega (arith, once z n t d s c))

  pub e16_ok : Case T E16
  unfolding row
  e16_ok at S x _ b _ (is_owner {x = y} z n t (e16 e a m h)) d s = by_eq T
      (λ i. found i a)
      (λ i. by_eq T
      (λ j. by_eq T
      (λ k. to T E17 (owner f.node.0 y) refl refl refl
      (is_owner z n t (e17 e
      (aim_map (λ p nz w. nowhere j k p nz w (eqb (origin top st) top) (same? (origin top st) top)) a))) d s)
      (λ k. lower z n t d' s (aim_map (λ p nz w g. above j p nz w g) a) (m k)))
      (λ j. stay T E16 (owner f.node.0 y) at refl refl
      (is_owner z n t (e16 e (aim_map (λ p nz w. onwards i p w) a) m (goes_live z n t d' s c r j))) d s))
    where
      c : ℕ
      c = f.c.0

      d' : Below T M S false
      d' = rw e at d

      r : Onward c y t.more
      r = onward z n t d' s c h

      found : M.next c ≡ f.p.0
          → Aim top (origin top st) (start (M.tail q) st) (follow st) f.p.0 (Walking top (origin top st) f.m.0 c y)
          → Then z n t d' s (go_to 21 (set_a c f))
      found i (behind o k p) = absurd (to_first z n t d' s c r k (i ∙ p))
      found i (before p nz w) =
          to T E21 (owner f.node.0 y) refl refl refl
          (is_owner z n t (e21 e p nz (to_mark z n t d' s c r (λ k. nz (p ∙ k)) (i ∙ p)))) d s

      -- the walk from the chain's owner does not end before it has found p
      elsewhere : M.next c ≡ 0 → f.p.0 ≡ follow st → f.p.0 ≢ 0 → Walking top (origin top st) f.m.0 c y
          → f.m.0 ≢ origin top st
      elsewhere j p nz w k =
          differ y (hot_goes z n t d' s c r (w.here k) (λ i. nz (p ∙ sym i ∙ j))) (omega (arith, none z n t d' s)) j

      nowhere : M.next c ≡ 0 → f.m.0 ≡ top → f.p.0 ≡ follow st → f.p.0 ≢ 0 → Walking top (origin top st) f.m.0 c y
          → (b : Bool) → Same (origin top st) top b → ⊥
      nowhere j k p nz w true (same o) = elsewhere j p nz w (k ∙ sym o)
      nowhere j k p nz w false (apart o) = w.more o k

      above : M.next c ≡ 0 → f.p.0 ≡ follow st → f.p.0 ≢ 0 → Walking top (origin top st) f.m.0 c y
          → origin top st ≢ top → origin top st < f.m.0
      above j p nz w g = let ne = elsewhere j p nz w in let k = w.above g in omega arith

      onwards : M.next c ≢ f.p.0 → f.p.0 ≡ follow st → Walking top (origin top st) f.m.0 c y
          → Walking top (origin top st) f.m.0 (M.next c) y
      onwards i p w = record {
        here = λ k. hot_goes z n t d' s c r (w.here k) (λ j. i (j ∙ sym p));
        above = w.above;
        more = w.more;
      }
  e16_ok at S x _ b _ (is_loose _ h) d s = elim h [ ]
  e16_ok at S x _ _ _ (is_mark _ _ h) d s = elim h [ ]
