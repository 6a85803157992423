-- The operation whose turn it is: its cost fact before the step gives the one after it, point by point.
use Prim.Native.Nat.{ℕ, zero, suc, ◌+◌, ◌-◌, ◌*◌, ◌≤◌, ◌<◌}
use mathlib.Core.Path.{◌≡◌, refl, sym, ap, ◌∙◌}
use mathlib.Core.Logic.{◌≢◌, ◌⊎◌, inl, inr}
use mathlib.Core.Bool.{Bool, true, false, cond}
use mathlib.Core.List.{List, [], ◌∷◌, ◌++◌}
use native.Mathlib.Omega.{arith}
use lib.Dec.{eqb}
use lib.ListN.{length, length-append}
use borrow.Author.Tests.{eq-eqb, ne_eqb}
use Rattle.words.specs.declared.Frame.{Frame}
use Rattle.words.specs.declared.Node.{Node}
use Rattle.words.specs.Layout.{level}
use Rattle.lists.specs.Count.{Same, same, apart, same?, cnt, cnt_self, counts}
use Rattle.state.specs.Mem.{Mem, put, put_same}
use Rattle.state.specs.Step.{mem_after, then}
use Rattle.table.specs.Points.{Point, number_of, point_of, E1, E2, E3, E4, E5, E6, E7, E8, E9, E10, E11, E12, E13, E14, E15}
use Rattle.table.specs.Points.{E16, E17, E18, E19, E20, E21, E22, E23, E24, E25, E26, E27, E28, E29, D1, D2, D3, D4, D5}
use Rattle.table.specs.Points.{D6, D7, Unknown}
use Rattle.table.specs.Laws.{point_is}
use Rattle.table.specs.Frames.{if_eq, below_k_to, below_m_to, walk_to, set_c}
use Rattle.table.specs.Table.{row}
use Rattle.table.specs.declared.After.{After}
use Rattle.table.specs.declared.After.TheVariants.{Go, Done}
use Rattle.chains.proofs.Links.{Walk, on, out, walk, seg_put, seg_head, seg_rest, seg_nil}
use Rattle.chains.proofs.Members.{either, last_in}
use Rattle.invariant.specs.Ghost.{Item, loose, owner, lists, origin}
use Rattle.invariant.specs.Facts.{Hot, is_loose, is_owner, e8, e9, e14, e15, e18, e22, d2, d3, d5, d6, d7, is_mark}
use Rattle.invariant.proofs.Keep.{aim_first}
use Rattle.invariant.proofs.Below.{hot_start, start_own, tail_in, shows, nobody}
use Rattle.invariant.proofs.Turn.{Turn, At, Below, Lists, HotBelow}
use Rattle.costs.specs.Costs.{Ends, base, Most, Walked, Turned, first, second, SpentBy}
use Rattle.costs.proofs.Ends.{ends_some, ends_next, ends_at, ends_add, along, follows, walk_ends}

-- what was taken before the node is handed in
base_two : (op : ℕ) → op ≡ 2 → base op ≡ 6
unfolding base
base_two op e = rw (eq-eqb op 2 e)

pub base_one : (op : ℕ) → op ≢ 2 → base op ≡ 0
unfolding base
base_one op e = rw (ne_eqb op 2 e)

-- a level less
down : (k w : ℕ) → k ≢ 0 → (k - 1) * w + w ≡ k * w
down zero w h = absurd (h refl)
down (suc k) w h = let e : suc k - 1 ≡ k = omega arith in rw e (omega arith)

-- the queue's own chain with no mark in it: the link of tail ends
alone_ends : {top o s t : ℕ} {next : ℕ → ℕ} {x : List ℕ} → o ≡ top → t ≡ 0 → Hot top next o s t x → next s ≡ 0
alone_ends {s = s} {t = t} {next = next} {x = x} a b h =
    let e : x ≡ s ∷ [] = h.begins ∙ ap (λ w. s ∷ w) (h.alone a b) in
    seg_nil (seg_rest (rw e at h.linked)) ∙ b

module _ (T : Turn) (v w s₀ : ℕ) (w= : w ≡ v + 6) (few : (xs : List ℕ) → ((y : ℕ) → cnt y xs ≤ T.own y) → length xs ≤ v)
    (steps : T.f.steps ≤ s₀ + 1) where
  open T use {top, q, own, fr, l, st, M, f}

  -- the fact of a frame of this level in a memory
  abbrev Fact : Mem → Frame → Point → Type 0
  Fact M f p = SpentBy top q v w l M.next (M.head q) f f.steps p

  -- what the step leaves
  pub data Fine (M' : Mem) : After → Type 0 where
    goes_on : {f' : Frame} {p : Point} → point_of f'.point ≡ p → Fact M' f' p → Fine M' (Go f')
    has_ended : {n : Node} → Most l v w f.op f.steps → Fine M' (Done n)

  by_eq : {M' : Mem} {a b : ℕ} {x y : After} → (a ≡ b → Fine M' x) → (a ≢ b → Fine M' y) → Fine M' (if_eq a b x y)
  unfolding if_eq
  by_eq {M'} {a} {b} {x} {y} h k = go (eqb a b) (same? a b)
    where
      go : (t : Bool) → Same a b t → Fine M' (cond t x y)
      go true (same e) = h e
      go false (apart e) = k e

  to : {f' : Frame} {M' : Mem} (p : Point) → f'.point ≡ number_of p → Fact M' f' p → Fine M' (Go f')
  to {f'} p e h = goes_on (point_is p f'.point e) h

  -- a step at point p
  abbrev pub Case : Point → Type 0
  Case p = point_of f.point ≡ p → (S x : List ℕ) (i : Item) (b b' : Bool) → At T M S f p i b b' → Below T M S b
      → Lists T own M S x i → SpentBy top q v w l M.next (M.head q) f s₀ p
      → Fine (mem_after M (row p f (level l) (level top))) (then M (row p f (level l) (level top)) f)

  -- ---- E1 to E6

  e1_pays : Case E1
  unfolding row
  e1_pays at S x i b b' h d s (g, u) = to E2 refl (g, omega arith)

  e2_pays : Case E2
  unfolding row below_k_to
  e2_pays at S x i b b' h d s (g, u) =
      by_eq (λ e. to E7 refl (g, omega arith)) (λ e. to E3 refl (g, omega (arith, down l w e)))

  -- below k, with the level k paid for
  next_k : {M' : Mem} → M'.head q ≡ M.head q → (f.op ≡ 2 → M.head q ≢ q)
      → s₀ + (f.k.0 * w + w) ≤ base f.op + l * w + 5 → Fine M' (below_k_to 7 3 f)
  unfolding below_k_to
  next_k e g u =
      by_eq (λ i. to E7 refl (rw e g, omega arith)) (λ i. to E3 refl (rw e g, omega (arith, down f.k.0 w i)))

  e3_pays : Case E3
  unfolding row
  e3_pays at S x i b b' h d s (g, u) = by_eq (λ e. to E4 refl (g, omega arith)) (λ e. next_k refl g (omega arith))

  e4_pays : Case E4
  unfolding row
  e4_pays at S x i b b' h d s (g, u) = to E5 refl (g, omega arith)

  e5_pays : Case E5
  unfolding row below_m_to
  e5_pays at S x i b b' h d s (g, u) = by_eq (λ e. to E6 refl (g, omega arith))
      (λ e. by_eq (λ j. to E15 refl (g, omega arith)) (λ j. to E13 refl (g, omega (arith, down f.k.0 w j))))

  e6_pays : Case E6
  unfolding row
  e6_pays at S x i b b' h d s (g, u) = next_k refl g u

  -- ---- walks

  -- a walk from a node of the hot list below, or of the lists below it
  lower_walk : {S x y : List ℕ} {b : Bool} (c : ℕ) → HotBelow T y → Below T M S b → Lists T own M S x (owner f.node.0 y)
      → 0 < cnt c (y ++ lists st) → (d : ℕ) × Ends M.next c d × (d ≤ v)
  lower_walk {y = y} c t d s h = (
    length (y ++ lists st),
    by (either c y (lists st) h),
    few (y ++ lists st) (λ z. simp counts (omega (arith, simp counts at (s.all z)))),
  )
    where
      by : (0 < cnt c y) ⊎ (0 < cnt c (lists st)) → Ends M.next c (length (y ++ lists st))
      by (inl m) = ends_at (sym (length-append y (lists st))) (along c y t.linked (follows st (λ z k. walk_ends z d k)) m)
      by (inr m) = ends_at (sym (length-append y (lists st))) (ends_add (length y) (walk_ends c d m))

  -- the walk along the chain that is linked in, from its first node, after the store to the node a of the hot list below
  own_walk : {S x y : List ℕ} (a n : ℕ) → Lists T own M S x (owner f.node.0 y) → 0 < cnt a y
      → (d : ℕ) × Ends (put M.next a n) f.node.0 d × (d ≤ v)
  own_walk {x = x} {y = y} a n s h = (
    length x + 0,
    along f.node.0 x (seg_put a n none s.hot.linked) (inl refl) (hot_start s.hot),
    (let k = few x (λ z. omega (arith, s.all z)) in omega arith),
  )
    where
      none : cnt a x ≡ 0
      none = omega (arith, simp counts at (s.all a), T.once a)

  -- one load of a walk: from point p to point r where it ends
  along_pays : (p r : Point) (x : ℕ) → point_of f.point ≡ p
      → (Walked top q v w l M.next (M.head q) f.op f.k.0 f.m.0 (M.next f.c.0) f.steps x
      → Fact M (set_c (M.next f.c.0) f) p)
      → ((f.op ≡ 2 → M.head q ≢ q) → f.steps ≤ base f.op + l * w + x → Fact M f r)
      → Walked top q v w l M.next (M.head q) f.op f.k.0 f.m.0 f.c.0 s₀ x
      → Fine M (walk_to (number_of r) (M.next f.c.0) f)
  unfolding walk_to
  along_pays p r x at stay end h = by_eq
      (λ e. to r refl (end h.gone (omega (arith, ends_some h.walk, h.upto))))
      (λ e. let k = ends_next h.walk e in
      goes_on at (stay (record { gone = h.gone; left = k.left; walk = k.walk; upto = omega (arith, h.upto, k.less) })))

  -- ---- E7 to E12

  e7_pays : Case E7
  unfolding row
  e7_pays at S x i b b' h d s (g, u) = to E8 refl (g, omega arith)

  -- tail's link ends
  e8_pays : Case E8
  unfolding row walk_to
  e8_pays at S x _ b _ (is_owner z n t (e8 k e)) d s (g, u) =
      let r = nobody d k in
      by_eq (λ j. to E9 refl (g, omega arith)) (λ j. absurd (j (rw (e ∙ sym r.begins) (alone_ends r.own r.ends t))))
  e8_pays at S x _ b _ (is_loose _ h) d s _ = elim h [ ]
  e8_pays at S x _ _ _ (is_mark _ _ h) d s _ = elim h [ ]

  e9_pays : Case E9
  unfolding row
  e9_pays at S x _ b _ (is_owner z n t (e9 k e)) d s (g, u) =
      let r = nobody d k in
      let j = own_walk f.c.0 f.node.0 s (rw (e ∙ sym r.begins) (hot_start t)) in
      to E10 refl (record { gone = g; left = j.0; walk = j.1; upto = omega (arith, j.2) })
  e9_pays at S x _ b _ (is_loose _ h) d s _ = elim h [ ]
  e9_pays at S x _ _ _ (is_mark _ _ h) d s _ = elim h [ ]

  e10_pays : Case E10
  unfolding row
  e10_pays at S x i b b' h d s u = along_pays E10 E11 (v + 5) at (λ k. k) (λ g k. (g, omega arith)) u

  e11_pays : Case E11
  unfolding row
  e11_pays at S x i b b' h d s (g, u) = to E12 refl (g, omega arith)

  e12_pays : Case E12
  unfolding row
  e12_pays at S x i b b' h d s (g, u) = to E28 refl (g, omega arith)

  -- ---- E13 to E16

  -- below m, with the level m paid for
  next_m : (f.op ≡ 2 → M.head q ≢ q) → s₀ + (f.m.0 * w + w) ≤ base f.op + l * w → (c : ℕ) → Fine M (below_m_to 15 13 (set_c c f))
  unfolding below_m_to
  next_m g u c = by_eq (λ i. to E15 refl (g, omega arith)) (λ i. to E13 refl (g, omega (arith, down f.m.0 w i)))

  e13_pays : Case E13
  unfolding row
  e13_pays at S x i b b' h d s (g, u) =
      by_eq (λ e. to E14 refl (g, omega arith)) (λ e. next_m g (omega arith) f.c.0)

  e14_pays : Case E14
  unfolding row
  e14_pays at S x _ b _ (is_owner {x = y} z n t (e14 e a m r)) d s (g, u) =
      by_eq (λ i. next_m g (omega arith) (M.ln f.m.0))
      (λ i. let k = lower_walk (M.ln f.m.0) t d s live in
      to E16 refl (record {
        gone = g;
        left = k.0;
        walk = k.1;
        tail = λ j. absurd (omega (arith, T.below));
        level = λ j. omega (arith, k.2);
      }))
    where
      live : 0 < cnt (M.ln f.m.0) (y ++ lists st)
      live = shows f.m.0 y (omega (arith, T.below)) d (hot_start t) r (T.listed f.m.0 m r)
  e14_pays at S x _ b _ (is_loose _ h) d s _ = elim h [ ]
  e14_pays at S x _ _ _ (is_mark _ _ h) d s _ = elim h [ ]

  e15_pays : Case E15
  unfolding row
  e15_pays at S x _ b _ (is_owner {x = y} z n t (e15 e a)) d s (g, u) =
      let k = lower_walk (M.tail f.queue.0) t d s (live (eqb (origin top st) top) (same? (origin top st) top)) in
      to E16 refl (record {
        gone = g;
        left = k.0;
        walk = k.1;
        tail = λ j. omega (arith, k.2);
        level = λ j. absurd (j refl);
      })
    where
      tail= : M.tail f.queue.0 ≡ M.tail q
      tail= = ap M.tail T.here.queued

      live : (b : Bool) → Same (origin top st) top b → 0 < cnt (M.tail f.queue.0) (y ++ lists st)
      live true (same h) =
          let k : 0 < cnt (M.tail f.queue.0) y = rw (tail= ∙ sym (start_own (omega (arith, T.below)) d h)) (hot_start t) in
          simp counts (omega arith)
      live false (apart h) = rw tail= (simp counts (omega (arith, tail_in (omega (arith, T.below)) d h)))
  e15_pays at S x _ b _ (is_loose _ h) d s _ = elim h [ ]
  e15_pays at S x _ _ _ (is_mark _ _ h) d s _ = elim h [ ]

  e16_pays : Case E16
  unfolding row
  e16_pays at S x i b b' h d s u = by_eq
      (λ e. to E21 refl (u.gone, up (eqb f.m.0 top) (same? f.m.0 top)))
      (λ e. by_eq
      (λ j. by_eq (λ k. to E17 refl (u.gone, omega (arith, some, u.tail k)))
      (λ k. next_m u.gone (omega (arith, some, u.level k)) f.c.0))
      (λ j. let k = ends_next u.walk j in
      goes_on at (record {
        gone = u.gone;
        left = k.left;
        walk = k.walk;
        tail = λ z. omega (arith, k.less, u.tail z);
        level = λ z. omega (arith, k.less, u.level z);
      })))
    where
      some : 1 ≤ u.left
      some = ends_some u.walk

      up : (t : Bool) → Same f.m.0 top t → f.steps + 0 ≤ base f.op + l * w + 0
      up true (same e) = omega (arith, some, u.tail e)
      up false (apart e) = omega (arith, some, u.level e)

  -- ---- E17 to E29

  e17_pays : Case E17
  unfolding row
  e17_pays at S x i b b' h d s (g, u) = to E18 refl (g, omega arith)

  e18_pays : Case E18
  unfolding row
  e18_pays at S x _ b _ (is_owner z n t (e18 e a r)) d s (g, u) =
      let j = own_walk f.p.0 f.node.0 s (aim_first t a) in
      to E19 refl (record { gone = g; left = j.0; walk = j.1; upto = omega (arith, j.2) })
  e18_pays at S x _ b _ (is_loose _ h) d s _ = elim h [ ]
  e18_pays at S x _ _ _ (is_mark _ _ h) d s _ = elim h [ ]

  e19_pays : Case E19
  unfolding row
  e19_pays at S x i b b' h d s u = along_pays E19 E20 (v + 2) at (λ k. k) (λ g k. (g, omega arith)) u

  e20_pays : Case E20
  unfolding row
  e20_pays at S x i b b' h d s (g, u) = to E28 refl (g, omega arith)

  e21_pays : Case E21
  unfolding row
  e21_pays at S x i b b' h d s (g, u) = to E22 refl (g, omega arith)

  e22_pays : Case E22
  unfolding row
  e22_pays at S x _ b _ (is_owner {x = y} z n t (e22 e i j k r)) d s (g, u) =
      let j = own_walk f.a.0 f.node.0 s (last_in f.a.0 y k) in
      to E23 refl (record { gone = g; left = j.0; walk = j.1; upto = omega (arith, j.2) })
  e22_pays at S x _ b _ (is_loose _ h) d s _ = elim h [ ]
  e22_pays at S x _ _ _ (is_mark _ _ h) d s _ = elim h [ ]

  e23_pays : Case E23
  unfolding row
  e23_pays at S x i b b' h d s u = along_pays E23 E24 (v + 2) at (λ k. k) (λ g k. (g, omega arith)) u

  e24_pays : Case E24
  unfolding row
  e24_pays at S x i b b' h d s (g, u) = to E25 refl (g, omega arith)

  e25_pays : Case E25
  unfolding row
  e25_pays at S x i b b' h d s (g, u) = by_eq (λ e. to E26 refl (g, omega arith)) (λ e. to E28 refl (g, omega arith))

  e26_pays : Case E26
  unfolding row
  e26_pays at S x i b b' h d s (g, u) = to E27 refl (g, omega arith)

  e27_pays : Case E27
  unfolding row
  e27_pays at S x i b b' h d s (g, u) = to E28 refl (g, omega arith)

  e28_pays : Case E28
  unfolding row
  e28_pays at S x i b b' h d s (g, u) = to E29 refl (g, omega arith)

  e29_pays : Case E29
  unfolding row
  e29_pays at S x i b b' h d s (g, u) = by_eq
      (λ e. has_ended (record {
        enqueue = λ o. omega (arith, base_one f.op (omega arith));
        dequeue = omega (arith, base_one f.op (omega arith));
      }))
      (λ e. let o : f.op ≡ 2 = omega (arith, T.here.busy, T.here.known) in
      to D1 refl (second (g o) (omega (arith, base_two f.op o))))

  -- ---- D1 to D7

  -- the fact of a dequeue's turn, i steps on
  abbrev Round : ℕ → ℕ → ℕ → Type 0
  Round c s i = Turned top q v w l M.next (M.head q) f.op f.k.0 f.m.0 c s i

  round_on : {c : ℕ} (c' i : ℕ) → Round c s₀ i → Round c' f.steps (i + 1)
  round_on c' i (first u) = first (omega arith)
  round_on c' i (second g u) = second g (omega arith)

  round_ends : {c : ℕ} (i : ℕ) → f.op ≡ 2 → i ≤ 5 → Round c s₀ i → Most l v w f.op f.steps
  round_ends i o h (first u) = record { enqueue = λ e. absurd (omega arith); dequeue = omega arith }
  round_ends i o h (second g u) = record { enqueue = λ e. absurd (omega arith); dequeue = omega arith }

  d1_pays : Case D1
  unfolding row
  d1_pays at S x i b b' h d s u = to D2 refl (round_on (M.head f.queue.0) 0 u)

  d2_pays : Case D2
  unfolding row
  d2_pays at S x _ b _ (is_loose z (d2 o e)) d s u =
      by_eq (λ j. has_ended (round_ends 1 o (omega arith) u)) (λ j. to D3 refl (round_on f.c.0 1 u))
  d2_pays at S x _ b _ (is_owner _ _ _ h) d s u = elim h [ ]
  d2_pays at S x _ _ _ (is_mark _ _ h) d s u = elim h [ ]

  d3_pays : Case D3
  unfolding row
  d3_pays at S x _ b _ (is_loose z (d3 o e)) d s u =
      by_eq (λ j. has_ended (round_ends 2 o (omega arith) u)) (λ j. to D4 refl (round_on f.c.0 2 u))
  d3_pays at S x _ b _ (is_owner _ _ _ h) d s u = elim h [ ]
  d3_pays at S x _ _ _ (is_mark _ _ h) d s u = elim h [ ]

  d4_pays : Case D4
  unfolding row
  d4_pays at S x i b b' h d s u = to D5 refl (round_on f.c.0 3 u)

  -- tail is in the hot list or in a list below
  tail_listed : {S x : List ℕ} {b : Bool} → Below T M S b → Lists T own M S x (loose [] [])
      → 0 < cnt (M.tail q) x + cnt (M.tail q) (lists st)
  tail_listed {x = x} d s = by (eqb (origin top st) top) (same? (origin top st) top)
    where
      by : (t : Bool) → Same (origin top st) top t → 0 < cnt (M.tail q) x + cnt (M.tail q) (lists st)
      by true (same h) =
          let k : 0 < cnt (M.tail q) x = rw (sym (start_own (omega (arith, T.below)) d h)) (hot_start s.hot) in
          omega arith
      by false (apart h) = omega (arith, tail_in (omega (arith, T.below)) d h)

  -- the node behind the one that is taken out is another
  behind : {S x R : List ℕ} {b : Bool} (c : ℕ) → S ≡ c ∷ R → Below T M S b → Lists T own M S x (loose [] []) → M.next c ≢ c
  behind {S} {x} {R} c e d s j = by (walk c (rw e at s.settled) (cnt_self c R))
    where
      once : cnt c (c ∷ R) + cnt c x + cnt c (lists st) ≤ 1
      once = rw (sym e) (omega (arith, s.all c, T.once c))

      by : Walk M.next c (M.tail q) (c ∷ R) R → ⊥
      by (on k) = let m : 0 < cnt c R = rw j at k in omega (arith, simp counts at once)
      by (out k r) =
          let m : 0 < cnt c x + cnt c (lists st) = rw (sym (sym j ∙ k)) at (tail_listed d s) in
          omega (arith, simp counts at once)

  d5_pays : Case D5
  unfolding row
  d5_pays at S x _ b _ (is_loose z (d5 {R = R} o e r)) d s u = by_eq
      (λ j. to D6 refl (another j, six j u))
      (λ j. to D7 refl (seven u))
    where
      c=head : M.head q ≡ f.c.0
      c=head = seg_head (rw e at s.settled)

      another : f.c.0 ≡ f.queue.0 → put M.head f.queue.0 f.r.0 q ≢ q
      another j =
          rw (T.here.queued, put_same M.head q f.r.0) (λ k. behind f.c.0 e d s (sym r ∙ k ∙ sym (j ∙ T.here.queued)))

      six : f.c.0 ≡ f.queue.0 → Round f.c.0 s₀ 4 → f.steps ≤ 5
      six j (first k) = omega arith
      six j (second g k) = absurd (g (c=head ∙ j ∙ T.here.queued))

      seven : Round f.c.0 s₀ 4 → f.steps ≤ l * w + v + 20
      seven (first k) = omega arith
      seven (second g k) = omega arith
  d5_pays at S x _ b _ (is_owner _ _ _ h) d s u = elim h [ ]
  d5_pays at S x _ _ _ (is_mark _ _ h) d s u = elim h [ ]

  d6_pays : Case D6
  unfolding row
  d6_pays at S x _ b _ (is_loose z (d6 o e)) d s (g, u) = to E1 refl ((λ k. g), omega (arith, base_two f.op o))
  d6_pays at S x _ b _ (is_owner _ _ _ h) d s _ = elim h [ ]
  d6_pays at S x _ _ _ (is_mark _ _ h) d s _ = elim h [ ]

  d7_pays : Case D7
  unfolding row
  d7_pays at S x _ b _ (is_loose z (d7 o e)) d s u =
      has_ended (record { enqueue = λ k. absurd (omega arith); dequeue = omega arith })
  d7_pays at S x _ b _ (is_owner _ _ _ h) d s u = elim h [ ]
  d7_pays at S x _ _ _ (is_mark _ _ h) d s u = elim h [ ]

  -- ---- all points

  pub pays : (p : Point) → Case p
  pays E1 = e1_pays
  pays E2 = e2_pays
  pays E3 = e3_pays
  pays E4 = e4_pays
  pays E5 = e5_pays
  pays E6 = e6_pays
  pays E7 = e7_pays
  pays E8 = e8_pays
  pays E9 = e9_pays
  pays E10 = e10_pays
  pays E11 = e11_pays
  pays E12 = e12_pays
  pays E13 = e13_pays
  pays E14 = e14_pays
  pays E15 = e15_pays
  pays E16 = e16_pays
  pays E17 = e17_pays
  pays E18 = e18_pays
  pays E19 = e19_pays
  pays E20 = e20_pays
  pays E21 = e21_pays
  pays E22 = e22_pays
  pays E23 = e23_pays
  pays E24 = e24_pays
  pays E25 = e25_pays
  pays E26 = e26_pays
  pays E27 = e27_pays
  pays E28 = e28_pays
  pays E29 = e29_pays
  pays D1 = d1_pays
  pays D2 = d2_pays
  pays D3 = d3_pays
  pays D4 = d4_pays
  pays D5 = d5_pays
  pays D6 = d6_pays
  pays D7 = d7_pays
  pays Unknown = λ at S x i b b' h d s u. absurd u
