-- A step of the highest frame keeps the invariant of the queue that it is on.
use Prim.Native.Nat.{ℕ, ◌+◌, ◌≤◌, ◌<◌}
use mathlib.Core.Path.{◌≡◌, refl, sym, ap, ◌∙◌}
use mathlib.Core.Logic.{◌≢◌, inl, inr}
use mathlib.Core.Bool.{Bool, true, false}
use mathlib.Core.List.{List, [], ◌∷◌, ◌++◌}
use native.Mathlib.Omega.{arith}
use lib.Dec.{eqb}
use Rattle.words.specs.declared.Sizes.{Sizes}
use Rattle.words.specs.declared.Frame.{Frame}
use Rattle.words.specs.declared.Word.TheVariants.{LevelNode, LevelQueue, Head, Tail, Next, Use}
use Rattle.words.specs.Layout.{level, no_frame}
use Rattle.lists.specs.Count.{Same, same, apart, same?, cnt, counts}
use Rattle.lists.specs.Beginning.{Beginning}
use Rattle.state.specs.Mem.{Mem, put, put_same, put_other}
use Rattle.state.specs.Step.{State, mem_after, then, frame_after, row_of, stepped}
use Rattle.state.specs.Queues.{On, own, Within, load, store, free, out_of}
use Rattle.table.specs.Points.{Point, point_of, number_of, E1, E2, E3, E4, E5, E6, E7, E8, E9, E10, E11, E12, E13, E14, E15}
use Rattle.table.specs.Points.{E16, E17, E18, E19, E20, E21, E22, E23, E24, E25, E26, E27, E28, E29, D1, D2, D3, D4, D5}
use Rattle.table.specs.Points.{D6, D7, Unknown}
use Rattle.table.specs.Laws.{point_is}
use Rattle.table.specs.Frames.{counted}
use Rattle.table.specs.Table.{Row, row}
use Rattle.table.specs.declared.After.{After}
use Rattle.invariant.specs.Ghost.{Item, Stack, push, Listed}
use Rattle.invariant.specs.Facts.{regs, View, Here, is_loose, d7, Works, Pile, upon, bottom, is_mark, is_owner}
use Rattle.invariant.specs.Sound.{view, StandIn, front_of, own_in, HereIn, PileIn, Stepping, Sound}
use Rattle.invariant.proofs.Keep.{upon'}
use Rattle.invariant.proofs.Below.{listed_below, listed_lower}
use Rattle.invariant.proofs.Turn.{Turn, Ok, goes_on, has_ended}
use Rattle.invariant.proofs.Enter.{e1_ok, e2_ok, e3_ok, e4_ok, e5_ok, e6_ok}
use Rattle.invariant.proofs.Append.{e7_ok, e8_ok, e9_ok, e10_ok, e11_ok, e12_ok}
use Rattle.invariant.proofs.Search.{e13_ok, e14_ok, e15_ok, e16_ok}
use Rattle.invariant.proofs.Insert.{e17_ok, e18_ok, e19_ok, e20_ok, e21_ok, e22_ok, e23_ok, e24_ok, e25_ok, e26_ok}
use Rattle.invariant.proofs.Insert.{e27_ok}
use Rattle.invariant.proofs.Leave.{e28_ok, e29_ok, d1_ok, d2_ok, d3_ok, d3_goes_on, d4_ok, d5_ok, d6_ok, d7_ok}
use Rattle.invariant.proofs.Own.{own_le, own_zero, own_user, own_freed}
use Rattle.invariant.proofs.Words.{within, unknown, early}
use Rattle.invariant.proofs.Levels.{each, same_frames, raise}

-- ---- the step, point by point

module _ (s : Sizes) (q l : ℕ) (W : State) (st : Stack) (low : l < s.levels) (q≥ : 1 ≤ q) (works : Works q (W.frames l))
    (listed : (j : ℕ) → j < l → W.mem.lq j ≡ q → Listed j st)
    (alone : (W.frames l).op ≡ 2 → (j : ℕ) → j < l → Works q (W.frames j) → (W.frames j).op ≢ 2) where
  -- one step counted, and all else as it was; said by themselves, so that turn needs no definition opened
  pub works_counted : Works q (counted (W.frames l))
  unfolding counted
  works_counted = record { busy = works.busy; known = works.known; queued = works.queued }

  pub alone_counted : (counted (W.frames l)).op ≡ 2 → (j : ℕ) → j < l → Works q (W.frames j) → (W.frames j).op ≢ 2
  unfolding counted
  alone_counted = alone

  abbrev pub turn : Turn
  turn = record {
    top = s.levels;
    q = q;
    own = own_in s q W;
    fr = W.frames;
    l = l;
    st = st;
    M = W.mem;
    f = counted (W.frames l);
    queued = q≥;
    below = low;
    here = works_counted;
    once = own_le s.queues W.mem.uses q;
    none = own_zero s.queues W.mem.uses q q≥;
    listed = listed;
    alone = alone_counted;
  }

  abbrev row_at : Point → Row
  row_at p = row p (counted (W.frames l)) (level l) (level s.levels)

  -- the node that D7 frees is the user's, and the queue's up to then
  one_less : {S x : List ℕ} {i : Item} {b b' : Bool} → HereIn s q W S l (W.frames l) D7 i st b b'
      → StandIn s q W S x (push l i st)
      → (y : ℕ) → own_in s q W y ≡ cnt y ((W.frames l).c.0 ∷ []) + own s.queues
      (put W.mem.uses (W.frames l).c.0 0) q y
  one_less (is_loose z (d7 o e)) t =
      let c = (W.frames l).c.0 in
      let mine : own_in s q W c ≡ 1 = omega (arith, simp counts at (t.all c), own_le s.queues W.mem.uses q c) in
      own_freed s.queues W.mem.uses q c q≥ (own_user s.queues W.mem.uses q c mine e) mine
  one_less (is_owner _ _ _ h) t = elim h [ ]
  one_less (is_mark _ _ h) t = elim h [ ]

  kept_at : (p : Point) → point_of (W.frames l).point ≡ p → (S x : List ℕ) (i : Item) (b b' : Bool)
      → HereIn s q W S l (counted (W.frames l)) p i st b b'
      → PileIn s q W S l st b → StandIn s q W S x (push l i st)
      → Ok turn (own s.queues (mem_after W.mem (row_at p)).uses q) (front_of q W.mem S (push l i st))
      (out_of (row_at p)) (mem_after W.mem (row_at p)) (then W.mem (row_at p) (counted (W.frames l)))
  unfolding row counted
  kept_at E1 = e1_ok turn
  kept_at E2 = e2_ok turn
  kept_at E3 = e3_ok turn
  kept_at E4 = e4_ok turn
  kept_at E5 = e5_ok turn
  kept_at E6 = e6_ok turn
  kept_at E7 = e7_ok turn
  kept_at E8 = e8_ok turn
  kept_at E9 = e9_ok turn
  kept_at E10 = e10_ok turn
  kept_at E11 = e11_ok turn
  kept_at E12 = e12_ok turn
  kept_at E13 = e13_ok turn
  kept_at E14 = e14_ok turn
  kept_at E15 = e15_ok turn
  kept_at E16 = e16_ok turn
  kept_at E17 = e17_ok turn
  kept_at E18 = e18_ok turn
  kept_at E19 = e19_ok turn
  kept_at E20 = e20_ok turn
  kept_at E21 = e21_ok turn
  kept_at E22 = e22_ok turn
  kept_at E23 = e23_ok turn
  kept_at E24 = e24_ok turn
  kept_at E25 = e25_ok turn
  kept_at E26 = e26_ok turn
  kept_at E27 = e27_ok turn
  kept_at E28 = e28_ok turn
  kept_at E29 = e29_ok turn
  kept_at D1 = d1_ok turn
  kept_at D2 = d2_ok turn
  kept_at D3 = d3_ok turn
  kept_at D4 = d4_ok turn
  kept_at D5 = d5_ok turn
  kept_at D6 = d6_ok turn
  kept_at D7 = λ at S x i b b' h d t. d7_ok turn (own s.queues (put W.mem.uses (W.frames l).c.0 0) q)
      (one_less h t) at S x i b b' h d t
  kept_at Unknown = λ at S x i b b' h d t. absurd (unknown h)

-- ---- what the step leaves

-- the highest frame on the queue is the top of the stack
pub data TopOf (top q : ℕ) (v : View) (fr : ℕ → Frame) (l : ℕ) : Stack → Bool → Type 0 where
  top_is : {i : Item} {st : Stack} {b b' : Bool} → Works q (fr l)
      → Here top q v l (regs (fr l)) (point_of (fr l).point) i st b b' → Pile top q v fr l st b
      → TopOf top q v fr l (push l i st) b'

pub on_top : {top q n : ℕ} {v : View} {fr : ℕ → Frame} {st : Stack} {b : Bool} (l : ℕ) → ((j : ℕ) → l < j → (fr j).op ≡ 0)
    → Pile top q v fr n st b → Listed l st → TopOf top q v fr l st b
on_top l idle (upon a o e t d) (inl h) = rw h (top_is o (rw (sym e) at t) d)
on_top l idle (upon {l = j} a o e t d) (inr h) = absurd (omega (arith, o, idle j (listed_below d h)))
on_top l idle bottom h = elim h [ ]

-- registered levels still have a frame on the queue
registered_after : {s : Sizes} {q : ℕ} {W : State} {r : Row} → Within s q W r
    → ((j : ℕ) → W.mem.lq j ≡ q → On q (W.frames j)) → (j : ℕ) → (mem_after W.mem r).lq j ≡ q → On q (W.frames j)
registered_after (load b) h j e = h j e
registered_after (store {w = LevelNode i} b m) h j e = h j e
registered_after {q = q} {W = W} (store {w = LevelQueue i} {v = v} b m) h j e = by (eqb j i.0) (same? j i.0)
  where
    by : (t : Bool) → Same j i.0 t → On q (W.frames j)
    by true (same k) = rw k m.0
    by false (apart k) = h j (sym (put_other W.mem.lq i.0 v j k) ∙ e)
registered_after (store {w = Head i} b m) h j e = h j e
registered_after (store {w = Tail i} b m) h j e = h j e
registered_after (store {w = Next i} b m) h j e = h j e
registered_after (store {w = Use i} b m) h j e = h j e
registered_after (free a b c) h j e = h j e

-- the queue's nodes were its nodes before
owned_before : {s : Sizes} {q : ℕ} {W : State} {r : Row} → 1 ≤ q → Within s q W r → (y : ℕ)
    → own s.queues (mem_after W.mem r).uses q y ≡ 1 → own_in s q W y ≡ 1
owned_before p (load b) y e = e
owned_before p (store {w = LevelNode i} b m) y e = e
owned_before p (store {w = LevelQueue i} b m) y e = e
owned_before p (store {w = Head i} b m) y e = e
owned_before p (store {w = Tail i} b m) y e = e
owned_before p (store {w = Next i} b m) y e = e
owned_before p (store {w = Use i} b m) y e = absurd m
owned_before {s} {q} {W} p (free {n = n} a b c) y e =
    omega (arith, own_freed s.queues W.mem.uses q n.0 p a c y, own_le s.queues W.mem.uses q y)

-- the invariant after a step, with the front then
pub record Kept (s : Sizes) (q : ℕ) (W : State) (front outs : List ℕ) : Type 0 where
  pub front' : List ℕ
  pub sound : Sound s q W front'
  pub begins : Beginning front (outs ++ front')

module _ (s : Sizes) (q l : ℕ) (W : State) (st : Stack) (low : l < s.levels) (q≥ : 1 ≤ q) (works : Works q (W.frames l))
    (listed : (j : ℕ) → j < l → W.mem.lq j ≡ q → Listed j st)
    (alone : (W.frames l).op ≡ 2 → (j : ℕ) → j < l → Works q (W.frames j) → (W.frames j).op ≢ 2)
    (i₀ : Item) (on_stack : (j : ℕ) → On q (W.frames j) → Listed j (push l i₀ st)) (q≤ : q ≤ s.queues)
    (one : (i j : ℕ) → On q (W.frames i) → On q (W.frames j) → (W.frames i).op ≡ 2 → (W.frames j).op ≡ 2 → i ≡ j)
    (front outs : List ℕ) (M' : Mem) (registered : (j : ℕ) → M'.lq j ≡ q → On q (W.frames j))
    (nodes : (y : ℕ) → own s.queues M'.uses q y ≡ 1 → (1 ≤ y) × (y ≤ s.nodes)) where
  -- the frames on the queue were on it before, with the same op
  one_then : (g : Frame) → (On q g → On q (W.frames l)) → (On q g → g.op ≡ 2 → (W.frames l).op ≡ 2)
      → (i j : ℕ) → On q (put W.frames l g i) → On q (put W.frames l g j) → (put W.frames l g i).op ≡ 2
      → (put W.frames l g j).op ≡ 2 → i ≡ j
  one_then g h k i j a b c d = one i j (was i a) (was j b) (did i a c) (did j b d)
    where
      was : (j : ℕ) → On q (put W.frames l g j) → On q (W.frames j)
      was = each W.frames l (λ j f. On q f → On q (W.frames j)) g h (λ j n o. o)

      did : (j : ℕ) → On q (put W.frames l g j) → (put W.frames l g j).op ≡ 2 → (W.frames j).op ≡ 2
      did = each W.frames l (λ j f. On q f → f.op ≡ 2 → (W.frames j).op ≡ 2) g k (λ j n o e. e)

  on : On q (W.frames l)
  on = ((λ (z : (W.frames l).op ≡ 0). omega (arith, works)), works.queued)

  finish : (a : After) → Ok (turn s q l W st low q≥ works listed alone) (own s.queues M'.uses q) front outs M' a
      → Kept s q (record { mem = M'; frames = put W.frames l (frame_after a) }) front outs
  unfolding counted
  finish _ (goes_on {f' = g} {S = S} {x = x} {i = i} {b' = b} at op qu h d t e) = record {
    front' = front_of q M' S (push l i st);
    begins = e;
    sound = record {
      settled = S;
      hot = x;
      stack = push l i st;
      done = b;
      pile = upon' low (rw (put_same W.frames l g) w) (ap (λ f. point_of f.point) (put_same W.frames l g) ∙ at)
          (rw (put_same W.frames l g) h) (same_frames W.frames g (omega arith) d);
      stand = t;
      listed = each W.frames l (λ j f. On q f → Listed j (push l i st)) g (λ o. inl refl) (λ j n o. on_stack j o);
      registered = each W.frames l (λ j f. M'.lq j ≡ q → On q f) g
          (λ r. ((λ (z : g.op ≡ 0). omega (arith, w)), w.queued)) (λ j n r. registered j r);
      one = one_then g (λ o. on) (λ o k. sym op ∙ k);
      nodes = nodes;
      low = q≥;
      high = q≤;
      front_is = refl;
    };
  }
    where
      w : Works q g
      w = record { busy = rw op works.busy; known = rw op works.known; queued = qu ∙ works.queued }
  finish _ (has_ended {S = S} {x = x} {b = b} z d t e) = record {
    front' = front_of q M' S st;
    begins = e;
    sound = record {
      settled = S;
      hot = x;
      stack = st;
      done = b;
      pile = raise (omega arith) (same_frames W.frames no_frame (omega arith) d);
      stand = t;
      listed = each W.frames l (λ j f. On q f → Listed j st) no_frame (λ o. absurd (o.0 refl))
          (λ j n o. listed_lower st n (on_stack j o));
      registered = each W.frames l (λ j f. M'.lq j ≡ q → On q f) no_frame (λ r. absurd (z r)) (λ j n r. registered j r);
      one = one_then no_frame (λ o. absurd (o.0 refl)) (λ o. absurd (o.0 refl));
      nodes = nodes;
      low = q≥;
      high = q≤;
      front_is = refl;
    };
  }

-- ---- the theorem

-- a beginning of the same list
begins_from : {xs ys zs : List ℕ} → xs ≡ ys → Beginning ys zs → Beginning xs zs
begins_from e b = (b.0, ap (λ y. y ++ b.0) e ∙ b.1)

pub sound_step : (s : Sizes) (q : ℕ) (W : State) (front : List ℕ) → Sound s q W front → (l : ℕ) → l < s.levels
    → On q (W.frames l)
    → ((j : ℕ) → l < j → (W.frames j).op ≡ 0) → Stepping s q W l front
unfolding counted
sound_step s q W front d l low o idle =
    by d.stack d.done (on_top l idle d.pile (d.listed l o)) d.stand d.listed d.front_is
  where
    f : Frame
    f = W.frames l

    S : List ℕ
    S = d.settled

    r : Row
    r = row_of s.levels l (W.frames l)

    by : (st : Stack) (b : Bool) → TopOf s.levels q (view q W.mem S) W.frames l st b → StandIn s q W S d.hot st
        → ((j : ℕ) → On q (W.frames j) → Listed j st) → front ≡ front_of q W.mem S st → Stepping s q W l front
    by _ _ (top_is {i = i} {st = st} works h p) t listed e =
        record {
          op = works.known;
          point = point;
          within = inside;
          front' = k.front';
          sound = k.sound;
          begins = begins_from e k.begins;
          linked = linked;
        }
      where
        below : (j : ℕ) → j < l → W.mem.lq j ≡ q → Listed j st
        below j m z = listed_lower st (omega arith) (listed j (d.registered j z))

        alone : f.op ≡ 2 → (j : ℕ) → j < l → Works q (W.frames j) → (W.frames j).op ≢ 2
        alone op j m w z = let e = d.one l j o ((λ (y : (W.frames j).op ≡ 0). omega (arith, w)), w.queued) op z in
            omega arith

        inside : Within s q W (row_of s.levels l (W.frames l))
        inside = within s q l W st (counted f) low d.low d.high works.queued o d.registered d.nodes
            (point_of f.point) h p t

        k : Kept s q (stepped s.levels l W) (front_of q W.mem S (push l i st)) (out_of r)
        k = finish s q l W st low d.low works below alone i listed d.high d.one (front_of q W.mem S (push l i st))
            (out_of r) (mem_after W.mem r)
            (registered_after inside d.registered) (λ y z. d.nodes y (owned_before d.low inside y z))
            (then W.mem r (counted f))
            (kept_at s q l W st low d.low works below alone (point_of f.point) refl S d.hot i _ _ h p t)

        point : f.op ≡ 1 → f.point < 31
        point = early f.point h

        linked : f.point ≡ number_of D3 → W.mem.next f.c.0 ≢ 0
        linked u = d3_goes_on (turn s q l W st low d.low works below alone) (rw (point_is D3 f.point u) at h) p t
