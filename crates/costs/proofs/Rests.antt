-- The operations whose turn it is not: their cost facts stand still, since what they walk on does.
use Prim.Native.Nat.{ℕ, suc, ◌≤◌, ◌<◌}
use mathlib.Core.Path.{◌≡◌, refl, sym, ◌∙◌}
use mathlib.Core.Logic.{◌≢◌, inl, inr}
use mathlib.Core.Bool.{Bool}
use mathlib.Core.List.{List, ◌∷◌}
use native.Mathlib.Omega.{arith}
use Rattle.words.specs.declared.Frame.{Frame}
use Rattle.words.specs.Layout.{level}
use Rattle.lists.specs.Count.{cnt, counts}
use Rattle.state.specs.Mem.{put, put_other}
use Rattle.state.specs.Step.{mem_after}
use Rattle.table.specs.Points.{Point, point_of, E1, E2, E3, E4, E5, E6, E7, E8, E9, E10, E11, E12, E13, E14, E15, E16, E17, E18}
use Rattle.table.specs.Points.{E19, E20, E21, E22, E23, E24, E25, E26, E27, E28, E29, D1, D2, D3, D4, D5, D6, D7, Unknown}
use Rattle.table.specs.Table.{row}
use Rattle.chains.proofs.Members.{last_in}
use Rattle.invariant.specs.Ghost.{Item, loose, owner, mark, Stack, push, lists, Listed}
use Rattle.invariant.specs.Facts.{Regs, regs, View, Here, is_loose, is_owner, is_mark, Pile, upon}
use Rattle.invariant.specs.Facts.{e9, e10, e16, e18, e19, e20, e22, e23, e24, d1, d2, d3, d4, d5, d6, d7, bottom}
use Rattle.invariant.proofs.Keep.{upon', aim_first}
use Rattle.invariant.proofs.Below.{Leads, leads, inner, inner_lists, hot_start, nobody}
use Rattle.invariant.proofs.Turn.{Turn, At, Below, Lists}
use Rattle.costs.specs.Costs.{Ends, Turned, first, second, Spent}
use Rattle.costs.proofs.Ends.{ends_same}

-- ---- a lower level

-- a listed level with what lies below it
pub record Found (top q j : ℕ) (v : View) (fr : ℕ → Frame) (Z : List ℕ) : Type 0 where
  pub point : Point
  pub item : Item
  pub rest : Stack
  pub before : Bool
  pub after : Bool
  pub is : point_of (fr j).point ≡ point
  pub here : Here top q v j (regs (fr j)) point item rest before after
  pub pile : Pile top q v fr (suc j) (push j item rest) after
  pub inside : (y : ℕ) → cnt y (lists (push j item rest)) ≤ cnt y Z

lists_up : (l : ℕ) (i : Item) (st : Stack) (y : ℕ) → cnt y (lists st) ≤ cnt y (lists (push l i st))
lists_up l (loose ins outs) st y = omega arith
lists_up l (owner n x) st y = simp counts (omega arith)
lists_up l (mark p w) st y = simp counts (omega arith)

pub found : {top q : ℕ} {v : View} {fr : ℕ → Frame} {n : ℕ} {st : Stack} {b : Bool} (j : ℕ) → Pile top q v fr n st b → Listed j st
    → Found top q j v fr (lists st)
found j (upon {l = l} {p = p} {i = i} {st = st} {b = b} {b' = b'} a o e t d) (inl h) = rw h (record {
  point = p;
  item = i;
  rest = st;
  before = b;
  after = b';
  is = e;
  here = t;
  pile = upon' (omega arith) o e t d;
  inside = λ y. omega arith;
})
found j (upon {l = l} {i = i} {st = st} a o e t d) (inr h) = let r = found j d h in record {
  point = r.point;
  item = r.item;
  rest = r.rest;
  before = r.before;
  after = r.after;
  is = r.is;
  here = r.here;
  pile = r.pile;
  inside = λ y. omega (arith, r.inside y, lists_up l i st y);
}
found j bottom h = elim h [ ]

-- the links of the lists lead into them
pub closed : {top q n : ℕ} {v : View} {fr : ℕ → Frame} {st : Stack} {b : Bool} → Pile top q v fr n st b → (y : ℕ)
    → 0 < cnt y (lists st) → Leads (v.next y) (lists st)
closed {v = v} {st = st} d y h = by (leads y d h)
  where
    by : Leads (v.next y) (inner st) → Leads (v.next y) (lists st)
    by (inl e) = inl e
    by (inr m) = inr (omega (arith, inner_lists st (v.next y)))

-- the links of the nodes Z lead into Z and stood still, and head did where it matters to this level
module _ (top q v w j s : ℕ) (X : View) (g : Regs) (next' : ℕ → ℕ) (head' : ℕ) (Z : List ℕ)
    (lead : (y : ℕ) → 0 < cnt y Z → Leads (X.next y) Z) (next= : (y : ℕ) → 0 < cnt y Z → next' y ≡ X.next y)
    (head= : g.op ≡ 2 → head' ≡ X.head) where
  abbrev Was : Point → Type 0
  Was p = Spent top q v w j X.next X.head g.op g.k g.m g.c s p

  abbrev Is : Point → Type 0
  Is p = Spent top q v w j next' head' g.op g.k g.m g.c s p

  gone : (g.op ≡ 2 → X.head ≢ q) → g.op ≡ 2 → head' ≢ q
  gone h o = rw (head= o) (h o)

  turned : {n : ℕ} → g.op ≡ 2 → Turned top q v w j X.next X.head g.op g.k g.m g.c s n
      → Turned top q v w j next' head' g.op g.k g.m g.c s n
  turned o (first u) = first u
  turned o (second h u) = second (rw (head= o) h) u

  walks : {d : ℕ} → 0 < cnt g.c Z → Ends X.next g.c d → Ends next' g.c d
  walks m r = ends_same Z next= lead m r

  pub rests : (p : Point) {i : Item} {st : Stack} {b b' : Bool} → Here top q X j g p i st b b'
      → ((y : ℕ) → cnt y (lists (push j i st)) ≤ cnt y Z) → Was p → Is p
  rests E1 h sub (g, u) = (gone g, u)
  rests E2 h sub (g, u) = (gone g, u)
  rests E3 h sub (g, u) = (gone g, u)
  rests E4 h sub (g, u) = (gone g, u)
  rests E5 h sub (g, u) = (gone g, u)
  rests E6 h sub (g, u) = (gone g, u)
  rests E7 h sub (g, u) = (gone g, u)
  rests E8 h sub (g, u) = (gone g, u)
  rests E9 h sub (g, u) = (gone g, u)
  rests E10 (is_mark z n (e10 a c t h)) sub u = record {
    gone = gone u.gone;
    left = u.left;
    walk = walks (omega (arith, simp counts at h, simp counts at (sub g.c))) u.walk;
    upto = u.upto;
  }
  rests E11 h sub (g, u) = (gone g, u)
  rests E12 h sub (g, u) = (gone g, u)
  rests E13 h sub (g, u) = (gone g, u)
  rests E14 h sub (g, u) = (gone g, u)
  rests E15 h sub (g, u) = (gone g, u)
  rests E16 (is_owner z n t (e16 e a m h)) sub u = record {
    gone = gone u.gone;
    left = u.left;
    walk = walks (omega (arith, sub g.c)) u.walk;
    tail = u.tail;
    level = u.level;
  }
  rests E17 h sub (g, u) = (gone g, u)
  rests E18 h sub (g, u) = (gone g, u)
  rests E19 (is_mark z n (e19 a t h)) sub u = record {
    gone = gone u.gone;
    left = u.left;
    walk = walks (omega (arith, simp counts at h, simp (t.whole, counts) at (sub g.c))) u.walk;
    upto = u.upto;
  }
  rests E20 h sub (g, u) = (gone g, u)
  rests E21 h sub (g, u) = (gone g, u)
  rests E22 h sub (g, u) = (gone g, u)
  rests E23 (is_mark z n (e23 a c t h)) sub u = record {
    gone = gone u.gone;
    left = u.left;
    walk = walks (omega (arith, simp counts at h, simp (t.whole, counts) at (sub g.c))) u.walk;
    upto = u.upto;
  }
  rests E24 h sub (g, u) = (gone g, u)
  rests E25 h sub (g, u) = (gone g, u)
  rests E26 h sub (g, u) = (gone g, u)
  rests E27 h sub (g, u) = (gone g, u)
  rests E28 h sub (g, u) = (gone g, u)
  rests E29 h sub (g, u) = (gone g, u)
  rests D1 (is_loose z (d1 o)) sub u = turned o u
  rests D2 (is_loose z (d2 o e)) sub u = turned o u
  rests D3 (is_loose z (d3 o e)) sub u = turned o u
  rests D4 (is_loose z (d4 o e)) sub u = turned o u
  rests D5 (is_loose z (d5 o e r)) sub u = turned o u
  rests D6 (is_loose z (d6 o e)) sub (g, u) = (rw (head= o) g, u)
  rests D7 h sub u = u
  rests Unknown h sub u = u
  rests E10 (is_loose z h) sub u = elim h [ ]
  rests E10 (is_owner z n t h) sub u = elim h [ ]
  rests E16 (is_loose z h) sub u = elim h [ ]
  rests E16 (is_mark z n h) sub u = elim h [ ]
  rests E19 (is_loose z h) sub u = elim h [ ]
  rests E19 (is_owner z n t h) sub u = elim h [ ]
  rests E23 (is_loose z h) sub u = elim h [ ]
  rests E23 (is_owner z n t h) sub u = elim h [ ]
  rests D1 (is_owner z n t h) sub u = elim h [ ]
  rests D1 (is_mark z n h) sub u = elim h [ ]
  rests D2 (is_owner z n t h) sub u = elim h [ ]
  rests D2 (is_mark z n h) sub u = elim h [ ]
  rests D3 (is_owner z n t h) sub u = elim h [ ]
  rests D3 (is_mark z n h) sub u = elim h [ ]
  rests D4 (is_owner z n t h) sub u = elim h [ ]
  rests D4 (is_mark z n h) sub u = elim h [ ]
  rests D5 (is_owner z n t h) sub u = elim h [ ]
  rests D5 (is_mark z n h) sub u = elim h [ ]
  rests D6 (is_owner z n t h) sub u = elim h [ ]
  rests D6 (is_mark z n h) sub u = elim h [ ]

-- ---- what a step leaves alone: the links of the lists below it, and head where it is no dequeue's

module _ (T : Turn) where
  open T use {top, q, own, fr, l, st, M, f}

  -- a store to a node that stands in no list below
  other : (a n y : ℕ) → cnt a (lists st) ≡ 0 → 0 < cnt y (lists st) → put M.next a n y ≡ M.next y
  other a n y z h = put_other M.next a n y (λ e. let k : cnt y (lists st) ≡ 0 = rw e z in omega arith)

  pub links_stay : (p : Point) {S x : List ℕ} {i : Item} {b b' : Bool} → At T M S f p i b b' → Below T M S b → Lists T own M S x i
      → (y : ℕ) → 0 < cnt y (lists st) → (mem_after M (row p f (level l) (level top))).next y ≡ M.next y
  unfolding row
  links_stay E1 h d s y m = refl
  links_stay E2 h d s y m = refl
  links_stay E3 h d s y m = refl
  links_stay E4 h d s y m = refl
  links_stay E5 h d s y m = refl
  links_stay E6 h d s y m = refl
  links_stay E7 h d s y m = refl
  links_stay E8 h d s y m = refl
  links_stay E9 (is_owner {x = x} z n t (e9 k e)) d s y h =
      let m : 0 < cnt f.c.0 x = rw (e ∙ sym (nobody d k).begins) (hot_start t) in
      other f.c.0 f.node.0 y (omega (arith, simp counts at (s.all f.c.0), T.once f.c.0)) h
  links_stay E10 h d s y m = refl
  links_stay E11 h d s y m = refl
  links_stay E12 h d s y m = refl
  links_stay E13 h d s y m = refl
  links_stay E14 h d s y m = refl
  links_stay E15 h d s y m = refl
  links_stay E16 h d s y m = refl
  links_stay E17 h d s y m = refl
  links_stay E18 (is_owner z n t (e18 e a r)) d s y h =
      let m = aim_first t a in
      other f.p.0 f.node.0 y (omega (arith, simp counts at (s.all f.p.0), T.once f.p.0)) h
  links_stay E19 h d s y m = refl
  links_stay E20 (is_mark z n (e20 a u k)) d s y h =
      let m = last_in f.c.0 (_ ∷ u.block) k in
      other f.c.0 f.r.0 y
      (omega (arith, simp counts at m, simp (u.whole, counts) at (s.all f.c.0), T.once f.c.0)) h
  links_stay E21 h d s y m = refl
  links_stay E22 (is_owner {x = x} z n t (e22 e i j k r)) d s y h =
      let m = last_in f.a.0 x k in
      other f.a.0 f.node.0 y (omega (arith, simp counts at (s.all f.a.0), T.once f.a.0)) h
  links_stay E23 h d s y m = refl
  links_stay E24 (is_mark z n (e24 a c u k)) d s y h =
      let m = last_in f.c.0 (_ ∷ u.block) k in
      other f.c.0 f.r.0 y
      (omega (arith, simp counts at m, simp (u.whole, counts) at (s.all f.c.0), T.once f.c.0)) h
  links_stay E25 h d s y m = refl
  links_stay E26 h d s y m = refl
  links_stay E27 h d s y m = refl
  links_stay E28 h d s y m = refl
  links_stay E29 h d s y m = refl
  links_stay D1 h d s y m = refl
  links_stay D2 h d s y m = refl
  links_stay D3 h d s y m = refl
  links_stay D4 h d s y m = refl
  links_stay D5 h d s y m = refl
  links_stay D6 (is_loose z (d6 o e)) d s y h =
      other f.c.0 0 y (omega (arith, simp counts at (s.all f.c.0), T.once f.c.0)) h
  links_stay D7 (is_loose z (d7 o e)) d s y h =
      other f.c.0 0 y (omega (arith, simp counts at (s.all f.c.0), T.once f.c.0)) h
  links_stay Unknown h d s y m = refl
  links_stay E9 (is_loose z w) d s y h = elim w [ ]
  links_stay E9 (is_mark z n w) d s y h = elim w [ ]
  links_stay E18 (is_loose z w) d s y h = elim w [ ]
  links_stay E18 (is_mark z n w) d s y h = elim w [ ]
  links_stay E20 (is_loose z w) d s y h = elim w [ ]
  links_stay E20 (is_owner z n t w) d s y h = elim w [ ]
  links_stay E22 (is_loose z w) d s y h = elim w [ ]
  links_stay E22 (is_mark z n w) d s y h = elim w [ ]
  links_stay E24 (is_loose z w) d s y h = elim w [ ]
  links_stay E24 (is_owner z n t w) d s y h = elim w [ ]
  links_stay D6 (is_owner z n t w) d s y h = elim w [ ]
  links_stay D6 (is_mark z n w) d s y h = elim w [ ]
  links_stay D7 (is_owner z n t w) d s y h = elim w [ ]
  links_stay D7 (is_mark z n w) d s y h = elim w [ ]

  pub head_stays : (p : Point) {S : List ℕ} {i : Item} {b b' : Bool} → At T M S f p i b b' → f.op ≢ 2
      → (mem_after M (row p f (level l) (level top))).head q ≡ M.head q
  unfolding row
  head_stays E1 h n = refl
  head_stays E2 h n = refl
  head_stays E3 h n = refl
  head_stays E4 h n = refl
  head_stays E5 h n = refl
  head_stays E6 h n = refl
  head_stays E7 h n = refl
  head_stays E8 h n = refl
  head_stays E9 h n = refl
  head_stays E10 h n = refl
  head_stays E11 h n = refl
  head_stays E12 h n = refl
  head_stays E13 h n = refl
  head_stays E14 h n = refl
  head_stays E15 h n = refl
  head_stays E16 h n = refl
  head_stays E17 h n = refl
  head_stays E18 h n = refl
  head_stays E19 h n = refl
  head_stays E20 h n = refl
  head_stays E21 h n = refl
  head_stays E22 h n = refl
  head_stays E23 h n = refl
  head_stays E24 h n = refl
  head_stays E25 h n = refl
  head_stays E26 h n = refl
  head_stays E27 h n = refl
  head_stays E28 h n = refl
  head_stays E29 h n = refl
  head_stays D1 h n = refl
  head_stays D2 h n = refl
  head_stays D3 h n = refl
  head_stays D4 h n = refl
  head_stays D5 (is_loose z (d5 o e r)) n = absurd (n o)
  head_stays D6 h n = refl
  head_stays D7 h n = refl
  head_stays Unknown h n = refl
  head_stays D5 (is_owner _ _ _ h) n = elim h [ ]
  head_stays D5 (is_mark _ _ h) n = elim h [ ]
