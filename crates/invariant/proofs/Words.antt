-- Each step's access is to a word that the table has, and its store is to a word of its own queue, point by point: so refusal 10
-- never comes, and queues stand apart.
use Prim.Native.Nat.{ℕ, ◌+◌, ◌≤◌, ◌<◌}
use mathlib.Core.Path.{◌≡◌, refl, sym, ◌∙◌}
use mathlib.Core.Logic.{◌≢◌, ◌⊎◌, inl, inr}
use mathlib.Core.Bool.{true, false, cond, Bool}
use mathlib.Core.List.{List, [], ◌∷◌}
use native.Mathlib.Omega.{arith}
use lib.Dec.{eqb}
use Rattle.words.specs.declared.Sizes.{Sizes}
use Rattle.words.specs.declared.Frame.{Frame}
use Rattle.words.specs.Layout.{level}
use Rattle.words.specs.Laws.{Bound}
use Rattle.words.specs.declared.Node.{Node}
use Rattle.words.specs.declared.Word.TheVariants.{Next, LevelQueue}
use Rattle.words.specs.declared.Word.{Word}
use Rattle.words.specs.declared.Level.{Level}
use Rattle.lists.specs.Count.{Same, same, apart, same?, cnt, counts}
use Rattle.state.specs.Step.{State}
use Rattle.state.specs.Queues.{On, Within, load, store, free}
use Rattle.table.specs.Points.{points, point_in, point_of, number_of, Point, E1, E2, E3, E4, E5, E6, E7, E8, E9, E10, E11}
use Rattle.table.specs.Points.{E12, E13, E14, E15, E16, E17, E18, E19, E20, E21, E22, E23, E24, E25, E26, E27, E28, E29}
use Rattle.table.specs.Points.{D1, D2, D3, D4, D5, D6, D7, Unknown}
use Rattle.table.specs.Table.{row, loads, stores}
use Rattle.table.specs.declared.After.{After}
use Rattle.chains.proofs.Members.{last_in}
use Rattle.invariant.specs.Ghost.{Item, Stack, push, lists, flight, follow, origin, start}
use Rattle.invariant.specs.Facts.{d1, d2, d5, Regs, View, Hot, Loose, Unlinked, Linked, Here, is_loose, is_owner}
use Rattle.invariant.specs.Facts.{is_mark, Pile, d3, d4, d6, d7, e3, e4, e6, e8, e9, e13, e14, e16, e17, e18, e21}
use Rattle.invariant.specs.Facts.{e22, e10, e19, e20, e23, e24}
use Rattle.invariant.specs.Sound.{StandIn, own_in, HereIn, PileIn}
use Rattle.invariant.proofs.Own.{own_le, own_user}
use Rattle.invariant.proofs.Keep.{aim_first}
use Rattle.invariant.proofs.Below.{hot_start, nobody}

-- ---- no operation stands at an unknown point

no_loose : {q ln head : ℕ} {next : ℕ → ℕ} {S : List ℕ} {g : Regs} {ins outs : List ℕ}
    → Loose q next ln head S g Unknown ins outs → ⊥
no_loose = elim [ ]

no_unlinked : {top q l tail o s t : ℕ} {ln lq next : ℕ → ℕ} {x lower : List ℕ} {b : Bool} {g : Regs}
    → Unlinked top q l ln lq next tail o s t x lower b g Unknown → ⊥
no_unlinked = elim [ ]

no_linked : {top tail o t p : ℕ} {next : ℕ → ℕ} {w : List ℕ} {g : Regs} → Linked top next tail o t p w g Unknown → ⊥
no_linked = elim [ ]

pub unknown : {top q l : ℕ} {v : View} {g : Regs} {i : Item} {st : Stack} {b b' : Bool} → Here top q v l g Unknown i st b b'
    → ⊥
unknown (is_loose z t) = no_loose t
unknown (is_owner z n t u) = no_unlinked u
unknown (is_mark z n t) = no_linked t

-- ---- an enqueue is at no D point

-- a known point has its own number
number_in : (xs : List Point) (n : ℕ) → (point_in xs n ≡ Unknown) ⊎ (n ≡ number_of (point_in xs n))
number_in [] n = inl refl
number_in (x ∷ xs) n = by (eqb n (number_of x)) (same? n (number_of x)) (number_in xs n)
  where
    by : (t : Bool) → Same n (number_of x) t → (point_in xs n ≡ Unknown) ⊎ (n ≡ number_of (point_in xs n))
        → (cond t x (point_in xs n) ≡ Unknown) ⊎ (n ≡ number_of (cond t x (point_in xs n)))
    by true (same e) r = inr e
    by false (apart e) r = r

number_of_holds : (n : ℕ) → (point_of n ≡ Unknown) ⊎ (n ≡ number_of (point_of n))
unfolding point_of
number_of_holds n = number_in points n

pub early_at : {top q l : ℕ} {v : View} {g : Regs} {i : Item} {st : Stack} {b b' : Bool} (p : Point) → Here top q v l g p i st b b'
    → g.op ≡ 1 → number_of p < 31
early_at E1 h o = omega arith
early_at E2 h o = omega arith
early_at E3 h o = omega arith
early_at E4 h o = omega arith
early_at E5 h o = omega arith
early_at E6 h o = omega arith
early_at E7 h o = omega arith
early_at E8 h o = omega arith
early_at E9 h o = omega arith
early_at E10 h o = omega arith
early_at E11 h o = omega arith
early_at E12 h o = omega arith
early_at E13 h o = omega arith
early_at E14 h o = omega arith
early_at E15 h o = omega arith
early_at E16 h o = omega arith
early_at E17 h o = omega arith
early_at E18 h o = omega arith
early_at E19 h o = omega arith
early_at E20 h o = omega arith
early_at E21 h o = omega arith
early_at E22 h o = omega arith
early_at E23 h o = omega arith
early_at E24 h o = omega arith
early_at E25 h o = omega arith
early_at E26 h o = omega arith
early_at E27 h o = omega arith
early_at E28 h o = omega arith
early_at E29 h o = omega arith
early_at D1 (is_loose z (d1 e)) o = absurd (omega arith)
early_at D2 (is_loose z (d2 e i)) o = absurd (omega arith)
early_at D3 (is_loose z (d3 e i)) o = absurd (omega arith)
early_at D4 (is_loose z (d4 e i)) o = absurd (omega arith)
early_at D5 (is_loose z (d5 e i r)) o = absurd (omega arith)
early_at D6 (is_loose z (d6 e i)) o = absurd (omega arith)
early_at D7 (is_loose z (d7 e i)) o = absurd (omega arith)
early_at Unknown h o = omega arith
early_at D1 (is_owner _ _ _ h) o = elim h [ ]
early_at D1 (is_mark _ _ h) o = elim h [ ]
early_at D2 (is_owner _ _ _ h) o = elim h [ ]
early_at D2 (is_mark _ _ h) o = elim h [ ]
early_at D3 (is_owner _ _ _ h) o = elim h [ ]
early_at D3 (is_mark _ _ h) o = elim h [ ]
early_at D4 (is_owner _ _ _ h) o = elim h [ ]
early_at D4 (is_mark _ _ h) o = elim h [ ]
early_at D5 (is_owner _ _ _ h) o = elim h [ ]
early_at D5 (is_mark _ _ h) o = elim h [ ]
early_at D6 (is_owner _ _ _ h) o = elim h [ ]
early_at D6 (is_mark _ _ h) o = elim h [ ]
early_at D7 (is_owner _ _ _ h) o = elim h [ ]
early_at D7 (is_mark _ _ h) o = elim h [ ]

pub early : {top q l : ℕ} {v : View} {g : Regs} {i : Item} {st : Stack} {b b' : Bool} (n : ℕ) → Here top q v l g (point_of n) i st b b'
    → g.op ≡ 1 → n < 31
early n h o = by (number_of_holds n)
  where
    by : (point_of n ≡ Unknown) ⊎ (n ≡ number_of (point_of n)) → n < 31
    by (inl e) = absurd (unknown (rw e at h))
    by (inr e) = omega (arith, early_at (point_of n) h o)

-- with nobody registered below, tail is in the hot list
tail_hot : {top q n c : ℕ} {v : View} {fr : ℕ → Frame} {st : Stack} {b : Bool} {x : List ℕ} → Pile top q v fr n st b
    → ((j : ℕ) → j < n → v.lq j ≢ q)
    → Hot top v.next (origin top st) (start v.tail st) (follow st) x → c ≡ v.tail → 0 < cnt c x
tail_hot d h o e = rw (e ∙ sym (nobody d h).begins) (hot_start o)

-- ---- the words of each row

module _ (s : Sizes) (q l : ℕ) (W : State) (st : Stack) (f : Frame) (low : l < s.levels) (q≥ : 1 ≤ q) (q≤ : q ≤ s.queues)
    (fq : f.queue.0 ≡ q) (on : On q (W.frames l))
    (registered : (j : ℕ) → W.mem.lq j ≡ q → On q (W.frames j))
    (range : (y : ℕ) → own_in s q W y ≡ 1 → (1 ≤ y) × (y ≤ s.nodes)) where
  queue_in : (1 ≤ f.queue.0) × (f.queue.0 ≤ s.queues)
  queue_in = rw fq (omega arith)

  -- a node that stands in some list is the queue's
  ours : {S x : List ℕ} {i : Item} → StandIn s q W S x (push l i st)
      → (y : ℕ) → 0 < cnt y S + cnt y x + cnt y (lists (push l i st)) + cnt y (flight (push l i st)) → own_in s q W y ≡ 1
  ours t y h = omega (arith, t.all y, own_le s.queues W.mem.uses q y)

  reads : {S x : List ℕ} {i : Item} {after : ℕ → After} → StandIn s q W S x (push l i st) → (y : Node)
      → 0 < cnt y.0 S + cnt y.0 x + cnt y.0 (lists (push l i st)) + cnt y.0 (flight (push l i st))
      → Within s q W (loads (Next y) after)
  unfolding Bound
  reads t y h = load (range y.0 (ours t y.0 h))

  links : {S x : List ℕ} {i : Item} {v : ℕ} {after : After} → StandIn s q W S x (push l i st) → (y : Node)
      → 0 < cnt y.0 S + cnt y.0 x + cnt y.0 (lists (push l i st)) + cnt y.0 (flight (push l i st))
      → Within s q W (stores (Next y) v after)
  unfolding Bound
  links t y h = store (range y.0 (ours t y.0 h)) (ours t y.0 h)

  looks : {w : Word} {after : ℕ → After} → Bound s w → Within s q W (loads w after)
  looks h = load h

  registers : {v : ℕ} {after : After} (j : Level) → j.0 < s.levels → On q (W.frames j.0) → (v ≡ q) ⊎ (v ≡ 0)
      → Within s q W (stores (LevelQueue j) v after)
  unfolding Bound
  registers {v} j a b c = store {w = LevelQueue j} {v = v} a (b, c)

  pub within : (p : Point) {S x : List ℕ} {i : Item} {b b' : Bool} → HereIn s q W S l f p i st b b' → PileIn s q W S l st b
      → StandIn s q W S x (push l i st) → Within s q W (row p f (level l) (level s.levels))
  unfolding row Bound
  within E1 h d t = store low on
  within E2 h d t = registers (level l) low on (inl fq)
  within E3 (is_owner z n o (e3 k h)) d t = looks (omega arith)
  within E4 (is_owner z n o (e4 h)) d t = looks (omega (arith, h.below))
  within E5 h d t = load queue_in
  within E6 (is_owner z n o (e6 h e)) d t =
      registers f.k (omega (arith, h.below)) (registered f.k.0 h.registered) (inr refl)
  within E7 h d t = load queue_in
  within E8 (is_owner z n o (e8 h e)) d t = reads t f.c (simp counts (omega (arith, tail_hot d h o e)))
  within E9 (is_owner z n o (e9 h e)) d t = links t f.c (simp counts (omega (arith, tail_hot d h o e)))
  within E10 (is_mark z n (e10 a b g h)) d t = reads t f.c (simp counts (omega (arith, simp counts at h)))
  within E11 h d t = store low on
  within E12 h d t = store queue_in fq
  within E13 (is_owner z n o (e13 e a m)) d t = looks (omega arith)
  within E14 (is_owner z n o (e14 e a m r)) d t = looks (omega arith)
  within E15 h d t = load queue_in
  within E16 (is_owner z n o (e16 e a m h)) d t = reads t f.c (simp counts (omega (arith, simp counts at h)))
  within E17 (is_owner z n o (e17 e a)) d t = reads t f.p (simp counts (omega (arith, aim_first o a)))
  within E18 (is_owner z n o (e18 e a r)) d t = links t f.p (simp counts (omega (arith, aim_first o a)))
  within E19 (is_mark z n (e19 a u h)) d t = reads t f.c (simp (u.whole, counts) (omega (arith, simp counts at h)))
  within E20 (is_mark z n (e20 a u h)) d t =
      links t f.c (simp (u.whole, counts) (omega (arith, simp counts at (last_in _ _ h))))
  within E21 (is_owner z n o (e21 e i j h)) d t = reads t f.a (simp counts (omega (arith, last_in _ _ h)))
  within E22 (is_owner z n o (e22 e i j h r)) d t = links t f.a (simp counts (omega (arith, last_in _ _ h)))
  within E23 (is_mark z n (e23 a c u h)) d t = reads t f.c (simp (u.whole, counts) (omega (arith, simp counts at h)))
  within E24 (is_mark z n (e24 a c u h)) d t =
      links t f.c (simp (u.whole, counts) (omega (arith, simp counts at (last_in _ _ h))))
  within E25 h d t = load queue_in
  within E26 h d t = store low on
  within E27 h d t = store queue_in fq
  within E28 h d t = registers (level l) low on (inr refl)
  within E29 h d t = store low on
  within D1 h d t = load queue_in
  within D2 h d t = load queue_in
  within D3 (is_loose z (d3 o e)) d t = reads t f.c (simp (e, counts) (omega arith))
  within D4 (is_loose z (d4 o e)) d t = reads t f.c (simp (e, counts) (omega arith))
  within D5 h d t = store queue_in fq
  within D6 (is_loose z (d6 o e)) d t = links t f.c (simp counts (omega arith))
  within D7 (is_loose z (d7 o e)) d t = let m = ours t f.c.0 (simp counts (omega arith)) in
      free (own_user s.queues W.mem.uses q f.c.0 m e) (range f.c.0 m).1 m
  within Unknown h d t = absurd (unknown h)
  within E3 (is_loose z h) d t = elim h [ ]
  within E3 (is_mark z n h) d t = elim h [ ]
  within E4 (is_loose z h) d t = elim h [ ]
  within E4 (is_mark z n h) d t = elim h [ ]
  within E6 (is_loose z h) d t = elim h [ ]
  within E6 (is_mark z n h) d t = elim h [ ]
  within E8 (is_loose z h) d t = elim h [ ]
  within E8 (is_mark z n h) d t = elim h [ ]
  within E9 (is_loose z h) d t = elim h [ ]
  within E9 (is_mark z n h) d t = elim h [ ]
  within E10 (is_loose z h) d t = elim h [ ]
  within E10 (is_owner z n o h) d t = elim h [ ]
  within E13 (is_loose z h) d t = elim h [ ]
  within E13 (is_mark z n h) d t = elim h [ ]
  within E14 (is_loose z h) d t = elim h [ ]
  within E14 (is_mark z n h) d t = elim h [ ]
  within E16 (is_loose z h) d t = elim h [ ]
  within E16 (is_mark z n h) d t = elim h [ ]
  within E17 (is_loose z h) d t = elim h [ ]
  within E17 (is_mark z n h) d t = elim h [ ]
  within E18 (is_loose z h) d t = elim h [ ]
  within E18 (is_mark z n h) d t = elim h [ ]
  within E19 (is_loose z h) d t = elim h [ ]
  within E19 (is_owner z n o h) d t = elim h [ ]
  within E20 (is_loose z h) d t = elim h [ ]
  within E20 (is_owner z n o h) d t = elim h [ ]
  within E21 (is_loose z h) d t = elim h [ ]
  within E21 (is_mark z n h) d t = elim h [ ]
  within E22 (is_loose z h) d t = elim h [ ]
  within E22 (is_mark z n h) d t = elim h [ ]
  within E23 (is_loose z h) d t = elim h [ ]
  within E23 (is_owner z n o h) d t = elim h [ ]
  within E24 (is_loose z h) d t = elim h [ ]
  within E24 (is_owner z n o h) d t = elim h [ ]
  within D3 (is_owner z n o h) d t = elim h [ ]
  within D3 (is_mark z n h) d t = elim h [ ]
  within D4 (is_owner z n o h) d t = elim h [ ]
  within D4 (is_mark z n h) d t = elim h [ ]
  within D6 (is_owner z n o h) d t = elim h [ ]
  within D6 (is_mark z n h) d t = elim h [ ]
  within D7 (is_owner z n o h) d t = elim h [ ]
  within D7 (is_mark z n h) d t = elim h [ ]
