-- What a pile tells of the levels and nodes in it: which level shows itself, where tail is, and where each node's link leads.
use Prim.Native.Nat.{ℕ, ◌+◌, ◌≤◌, ◌<◌}
use mathlib.Core.Path.{◌≡◌, refl, sym, ◌∙◌}
use mathlib.Core.Logic.{◌≢◌, ◌⊎◌, inl, inr}
use mathlib.Core.Bool.{Bool, true, false}
use mathlib.Core.List.{List, [], ◌∷◌, ◌++◌, append-nil}
use native.Mathlib.Omega.{arith}
use lib.Dec.{eqb}
use Rattle.words.specs.declared.Frame.{Frame}
use Rattle.lists.specs.Count.{Same, same, apart, same?, cnt, cnt_nil, cnt_self, counts}
use Rattle.state.specs.Mem.{put, put_same, put_other}
use Rattle.table.specs.Points.{Point}
use Rattle.chains.proofs.Members.{either, differ}
use Rattle.chains.specs.Seg.{Seg}
use Rattle.chains.proofs.Links.{Walk, on, out, walk}
use Rattle.invariant.specs.Ghost.{loose, owner, mark, Stack, floor, push, lists, flight, leaving, follow, origin}
use Rattle.invariant.specs.Ghost.{start, Listed}
use Rattle.invariant.specs.Facts.{Regs, View, Hot, Loose, d7, e1, e2, e28_off, e29, d1, d2, d3, d4, d5, d6, Highest}
use Rattle.invariant.specs.Facts.{Cut, Linked, e10, e11, e12, e19, e20, e23, e24, e25, e26, e27, e28, is_loose}
use Rattle.invariant.specs.Facts.{is_done, is_owner, is_mark, Works, Pile, bottom, upon}
use Rattle.invariant.proofs.Keep.{upon', keep_all, the_same}

-- ---- levels

pub listed_below : {top q : ℕ} {v : View} {fr : ℕ → Frame} {n j : ℕ} {st : Stack} {b : Bool} → Pile top q v fr n st b → Listed j st
    → j < n
listed_below (upon a o e t d) (inl h) = omega arith
listed_below (upon a o e t d) (inr h) = omega (arith, listed_below d h)
listed_below bottom h = elim h [ ]

pub listed_on : {top q : ℕ} {v : View} {fr : ℕ → Frame} {n : ℕ} {st : Stack} {b : Bool} (j : ℕ) → Pile top q v fr n st b
    → Listed j st → Works q (fr j)
listed_on j (upon a o e t d) (inl h) = rw h o
listed_on j (upon a o e t d) (inr h) = listed_on j d h
listed_on j bottom h = elim h [ ]

-- a level other than the highest is listed below it
pub listed_lower : {j l : ℕ} (st : Stack) → j ≢ l → (j ≡ l) ⊎ Listed j st → Listed j st
listed_lower st h (inl e) = absurd (h e)
listed_lower st h (inr e) = e

pub origin_below : {top q : ℕ} {v : View} {fr : ℕ → Frame} {n : ℕ} {st : Stack} {b : Bool} → Pile top q v fr n st b
    → origin top st ≢ top → origin top st < n
origin_below bottom h = absurd (h refl)
origin_below (upon a o e (is_loose z t) d) h = omega (arith, origin_below d h)
origin_below (upon a o e (is_done z i t) d) h = omega (arith, origin_below d h)
origin_below (upon a o e (is_owner z i t u) d) h = a
origin_below (upon a o e (is_mark z i t) d) h = omega (arith, origin_below d h)

-- the owner of a chain is registered
pub origin_registered : {top q : ℕ} {v : View} {fr : ℕ → Frame} {n : ℕ} {st : Stack} {b : Bool} → Pile top q v fr n st b
    → origin top st ≢ top → v.lq (origin top st) ≡ q
origin_registered bottom h = absurd (h refl)
origin_registered (upon a o e (is_loose z t) d) h = origin_registered d h
origin_registered (upon a o e (is_done z i t) d) h = origin_registered d h
origin_registered (upon a o e (is_owner z i t u) d) h = z
origin_registered (upon a o e (is_mark z i t) d) h = origin_registered d h

-- ---- tail

pub start_own : {top q : ℕ} {v : View} {fr : ℕ → Frame} {n : ℕ} {st : Stack} {b : Bool} → n ≤ top → Pile top q v fr n st b
    → origin top st ≡ top → start v.tail st ≡ v.tail
start_own k bottom h = refl
start_own k (upon a o e (is_loose z t) d) h = start_own (omega arith) d h
start_own k (upon a o e (is_done z i t) d) h = start_own (omega arith) d h
start_own k (upon a o e (is_owner z i t u) d) h = absurd (omega arith)
start_own k (upon a o e (is_mark z i t) d) h = start_own (omega arith) d h

pub start_owned : {top q : ℕ} {v : View} {fr : ℕ → Frame} {n : ℕ} {st : Stack} {b : Bool} → Pile top q v fr n st b
    → origin top st ≢ top → v.ln (origin top st) ≡ start v.tail st
start_owned bottom h = absurd (h refl)
start_owned (upon a o e (is_loose z t) d) h = start_owned d h
start_owned (upon a o e (is_done z i t) d) h = start_owned d h
start_owned (upon a o e (is_owner z i t u) d) h = i
start_owned (upon a o e (is_mark z i t) d) h = start_owned d h

-- a hot list holds the start of its chain
pub hot_start : {top o s t : ℕ} {next : ℕ → ℕ} {x : List ℕ} → Hot top next o s t x → 0 < cnt s x
hot_start {s = s} h = rw h.begins (cnt_self s h.more)

-- where some level is not linked in, tail is in a list below
pub tail_in : {top q : ℕ} {v : View} {fr : ℕ → Frame} {n : ℕ} {st : Stack} {b : Bool} → n ≤ top → Pile top q v fr n st b
    → origin top st ≢ top → 0 < cnt v.tail (lists st)
tail_in k bottom h = absurd (h refl)
tail_in k (upon a o e (is_loose z t) d) h = tail_in (omega arith) d h
tail_in k (upon a o e (is_done z i t) d) h = tail_in (omega arith) d h
tail_in {top} {v = v} k (upon a o e (is_owner {x = x} {st = st} z i t u) d) h =
    by (eqb (origin top st) top) (same? (origin top st) top) (λ r. tail_in (omega arith) d r)
  where
    by : (s : Bool) → Same (origin top st) top s → (origin top st ≢ top → 0 < cnt v.tail (lists st))
        → 0 < cnt v.tail (x ++ lists st)
    by true (same r) ih = let w : 0 < cnt v.tail x = rw (start_own (omega arith) d r) at (hot_start t) in
        simp counts (omega arith)
    by false (apart r) ih = simp counts (omega (arith, ih r))
tail_in k (upon a o e (is_mark z i t) d) h = simp counts (omega (arith, tail_in (omega arith) d h))

-- ---- the level that shows itself

-- nobody is registered: the hot list is the queue's own chain, whole
pub record Nobody (top tail : ℕ) (st : Stack) (b : Bool) : Type 0 where
  pub own : origin top st ≡ top
  pub ends : follow st ≡ 0
  pub begins : start tail st ≡ tail
  pub unsettled : b ≡ false

pub nobody : {top q : ℕ} {v : View} {fr : ℕ → Frame} {n : ℕ} {st : Stack} {b : Bool} → Pile top q v fr n st b
    → ((j : ℕ) → j < n → v.lq j ≢ q) → Nobody top v.tail st b
nobody bottom h = record { own = refl; ends = refl; begins = refl; unsettled = refl }
nobody (upon a o e (is_loose z t) d) h = let r = nobody d (λ j k. h j (omega arith)) in
    record { own = r.own; ends = r.ends; begins = r.begins; unsettled = r.unsettled }
nobody (upon {l = l} a o e (is_done z i t) d) h = absurd (h l a z)
nobody (upon {l = l} a o e (is_owner z i t u) d) h = absurd (h l a z)
nobody (upon {l = l} a o e (is_mark z i t) d) h = absurd (h l a z)

-- k shows itself, and p is what it shows: the first node of its own chain, its mark, or tail
pub data Shown (top tail o s t k p : ℕ) : Bool → Type 0 where
  at_owner : o ≢ top → t ≡ 0 → p ≡ s → p ≢ tail → Shown top tail o s t k p false
  at_mark : p ≡ t → p ≢ 0 → (o ≢ top → o < k) → p ≢ tail → Shown top tail o s t k p false
  at_done : p ≡ tail → Shown top tail o s t k p true

-- k is the highest registered level, and stands on the stack: what lies on top of the stack is k's if it is registered
highest_top : {top q n k l : ℕ} {v : View} {fr : ℕ → Frame} {st : Stack} {b : Bool} → l < n → v.lq l ≡ q
    → Highest v.lq q k n → Pile top q v fr l st b → (k ≡ l) ⊎ Listed k st → k ≡ l
highest_top a z h d (inl e) = e
highest_top {l = l} a z h d (inr e) = absurd (h.free l (listed_below d e) a z)

-- and else k stands below it
highest_lower : {q n k l : ℕ} {lq : ℕ → ℕ} (st : Stack) → lq l ≢ q → Highest lq q k n → (k ≡ l) ⊎ Listed k st → Listed k st
highest_lower st z h (inl e) = absurd (z (rw e at h.registered))
highest_lower st z h (inr e) = e

lower_highest : {q n k l : ℕ} {lq : ℕ → ℕ} → k < l → l < n → Highest lq q k n → Highest lq q k l
lower_highest a b h = record { below = a; registered = h.registered; free = λ j i m. h.free j i (omega arith) }

-- the first of a mark's piece is not tail: tail is the start of the chain, or in a list below
mark_apart : {top q n : ℕ} {v : View} {fr : ℕ → Frame} {st : Stack} {b : Bool} (p : ℕ) (x w : List ℕ) → n ≤ top
    → Pile top q v fr n st b → 0 < cnt (start v.tail st) x
    → ((y : ℕ) → cnt y x + cnt y (p ∷ (w ++ lists st)) ≤ 1) → p ≢ v.tail
mark_apart {top} {v = v} {st = st} p x w c d s once e = by (eqb (origin top st) top) (same? (origin top st) top)
  where
    twice : cnt v.tail x + cnt v.tail (lists st) ≡ 0
    twice = rw (sym e) (omega (arith, simp counts at (once p)))

    by : (t : Bool) → Same (origin top st) top t → ⊥
    by true (same r) = let h : 0 < cnt v.tail x = rw (start_own c d r) at s in omega (arith, twice)
    by false (apart r) = omega (arith, tail_in c d r, twice)

pub shown : {top q : ℕ} {v : View} {fr : ℕ → Frame} {n k : ℕ} {st : Stack} {b : Bool} (x : List ℕ) → n ≤ top
    → Pile top q v fr n st b → Highest v.lq q k n → Listed k st
    → 0 < cnt (start v.tail st) x → ((y : ℕ) → cnt y x + cnt y (lists st) ≤ 1) → cnt 0 (lists st) ≡ 0
    → Shown top v.tail (origin top st) (start v.tail st) (follow st) k (v.ln k) b
shown x c (upon a o e (is_loose {st = st} z t) d) h s w once none = let s' = highest_lower st z h s in
    shown x (omega arith) d (lower_highest (listed_below d s') a h) s' w once none
shown x c (upon a o e (is_done z i t) d) h s w once none = at_done (rw (highest_top a z h d s) i)
shown {top} {v = v} x c (upon {l = l} {st = st} a o e (is_owner {x = y} z i t u) d) h s w once none =
    let in_lists = tail_in c (upon a o e (is_owner z i t u) d) (λ (r : l ≡ top). omega arith) in
    rw (highest_top a z h d s) (at_owner (omega arith) refl i (rw i (differ x w (omega (arith, once v.tail)))))
shown {v = v} x c (upon {l = l} {st = st} a o e (is_mark {s = p} {w = m} z i t) d) h s w once none =
    rw (highest_top a z h d s)
    (at_mark i (rw i (differ (p ∷ (m ++ lists st)) (cnt_self p (m ++ lists st)) none)) (λ r. origin_below d r)
    (rw i (mark_apart p x m (omega arith) d w once)))
shown x c bottom h s w once none = elim s [ ]

-- ---- links

-- the nodes of the lists to which a node of the lists leads: all but the first of the top mark
abbrev pub inner : Stack → List ℕ
inner floor = []
inner (push l (loose ins outs) st) = inner st
inner (push l (owner n x) st) = x ++ lists st
inner (push l (mark p w) st) = w ++ lists st

pub inner_lists : (st : Stack) (y : ℕ) → cnt y (inner st) ≤ cnt y (lists st)
inner_lists floor y = omega arith
inner_lists (push l (loose ins outs) st) y = inner_lists st y
inner_lists (push l (owner n x) st) y = omega arith
inner_lists (push l (mark p w) st) y = simp counts (omega arith)

pub inner_follow : (st : Stack) → follow st ≢ 0 → 1 + cnt (follow st) (inner st) ≤ cnt (follow st) (lists st)
inner_follow floor h = absurd (h refl)
inner_follow (push l (loose ins outs) st) h = inner_follow st h
inner_follow (push l (owner n x) st) h = absurd (h refl)
inner_follow (push l (mark p w) st) h = simp counts (omega arith)

-- a pointer that is 0 or leads into xs
abbrev pub Leads : ℕ → List ℕ → Type 0
Leads y xs = (y ≡ 0) ⊎ (0 < cnt y xs)

leads_more : (y : ℕ) (xs ys : List ℕ) → cnt y xs ≤ cnt y ys → Leads y xs → Leads y ys
leads_more y xs ys h (inl e) = inl e
leads_more y xs ys h (inr k) = inr (omega arith)

pub follow_in : (st : Stack) → Leads (follow st) (lists st)
follow_in floor = inl refl
follow_in (push l (loose ins outs) st) = follow_in st
follow_in (push l (owner n x) st) = inl refl
follow_in (push l (mark p w) st) = inr (cnt_self p (w ++ lists st))

-- from a node of a stretch to a later one, or to what follows it
pub leads_along : {next : ℕ → ℕ} {s t : ℕ} (x : ℕ) (ws : List ℕ) (c : ℕ) (ys : List ℕ) → Seg next s (x ∷ ws) t → Leads t ys
    → 0 < cnt c (x ∷ ws) → Leads (next c) (ws ++ ys)
leads_along {next} {t = t} x ws c ys g f h = by (walk c g h) f
  where
    by : Walk next c t (x ∷ ws) ws → Leads t ys → Leads (next c) (ws ++ ys)
    by (on k) r = inr (simp counts (omega arith))
    by (out e l) (inl z) = inl (e ∙ z)
    by (out e l) (inr k) = inr (rw e (simp counts (omega arith)))

-- the same of any stretch, into all of it
leads_in : {next : ℕ → ℕ} {s t : ℕ} (xs : List ℕ) (c : ℕ) (ys : List ℕ) → Seg next s xs t → Leads t ys → 0 < cnt c xs
    → Leads (next c) (xs ++ ys)
leads_in [] c ys g f h = absurd (omega (arith, cnt_nil c))
leads_in {next} (x ∷ ws) c ys g f h =
    leads_more (next c) (ws ++ ys) (x ∷ ws ++ ys) (simp counts (omega arith)) (leads_along x ws c ys g f h)

-- in a piece that is cut, too
leads_cut : {next : ℕ → ℕ} {p r t : ℕ} {w : List ℕ} (c : ℕ) (ys : List ℕ) → Cut next p w r t → Leads t ys → 0 < cnt c (p ∷ w)
    → Leads (next c) (w ++ ys)
leads_cut {next} {p} {t = t} {w = w} c ys u f h = by (either c (p ∷ u.block) u.rest (rw u.whole at h))
  where
    by : (0 < cnt c (p ∷ u.block)) ⊎ (0 < cnt c u.rest) → Leads (next c) (w ++ ys)
    by (inl k) = leads_more (next c) (u.block ++ []) (w ++ ys) (rw u.whole (simp counts (omega arith)))
        (leads_along p u.block c [] u.ends (inl refl) k)
    by (inr k) = leads_more (next c) (u.rest ++ ys) (w ++ ys) (rw u.whole (simp counts (omega arith)))
        (leads_in u.rest c ys u.hangs f k)

leads_piece : {top : ℕ} {next : ℕ → ℕ} {tail o t p : ℕ} {w : List ℕ} {i : Point} {g : Regs} (c : ℕ) (ys : List ℕ)
    → Linked top next tail o t p w g i → Leads t ys → 0 < cnt c (p ∷ w) → Leads (next c) (w ++ ys)
leads_piece {p = p} {w = w} c ys (e10 a b s k) f h = leads_along p w c ys s f h
leads_piece {p = p} {w = w} c ys (e11 a b s k) f h = leads_along p w c ys s f h
leads_piece {p = p} {w = w} c ys (e12 a b s k z) f h = leads_along p w c ys s f h
leads_piece c ys (e19 a u k) f h = leads_cut c ys u f h
leads_piece c ys (e20 a u k) f h = leads_cut c ys u f h
leads_piece c ys (e23 a b u k) f h = leads_cut c ys u f h
leads_piece c ys (e24 a b u k) f h = leads_cut c ys u f h
leads_piece {p = p} {w = w} c ys (e25 a b s k) f h = leads_along p w c ys s f h
leads_piece {p = p} {w = w} c ys (e26 a b s k) f h = leads_along p w c ys s f h
leads_piece {p = p} {w = w} c ys (e27 a b s k) f h = leads_along p w c ys s f h
leads_piece {p = p} {w = w} c ys (e28 a s) f h = leads_along p w c ys s f h

-- from a node of the lists the link ends, or leads to a node of the lists that is not the first of the top mark
pub leads : {top q : ℕ} {v : View} {fr : ℕ → Frame} {n : ℕ} {st : Stack} {b : Bool} (c : ℕ) → Pile top q v fr n st b
    → 0 < cnt c (lists st) → Leads (v.next c) (inner st)
leads c bottom h = absurd (omega (arith, cnt_nil c))
leads c (upon a o e (is_loose z t) d) h = leads c d h
leads c (upon a o e (is_done z i t) d) h = leads c d h
leads {v = v} c (upon a o e (is_owner {x = x} {st = st} z i t u) d) h = by (either c x (lists st) h) (λ k. leads c d k)
  where
    by : (0 < cnt c x) ⊎ (0 < cnt c (lists st)) → (0 < cnt c (lists st) → Leads (v.next c) (inner st))
        → Leads (v.next c) (x ++ lists st)
    by (inl k) ih = leads_in x c (lists st) t.linked (follow_in st) k
    by (inr k) ih = leads_more (v.next c) (inner st) (x ++ lists st)
        (simp counts (omega (arith, inner_lists st (v.next c)))) (ih k)
leads {v = v} c (upon a o e (is_mark {s = p} {w = w} {st = st} z i t) d) h =
    by (either c (p ∷ w) (lists st) h) (λ k. leads c d k)
  where
    by : (0 < cnt c (p ∷ w)) ⊎ (0 < cnt c (lists st)) → (0 < cnt c (lists st) → Leads (v.next c) (inner st))
        → Leads (v.next c) (w ++ lists st)
    by (inl k) ih = leads_piece c (lists st) t (follow_in st) k
    by (inr k) ih = leads_more (v.next c) (inner st) (w ++ lists st)
        (simp counts (omega (arith, inner_lists st (v.next c)))) (ih k)

-- ---- what a registered level shows is in a list, or in the hot list x

pub shows : {top q : ℕ} {v : View} {fr : ℕ → Frame} {n : ℕ} {st : Stack} {b : Bool} (m : ℕ) (x : List ℕ) → n ≤ top
    → Pile top q v fr n st b → 0 < cnt (start v.tail st) x
    → v.lq m ≡ q → Listed m st → 0 < cnt (v.ln m) (x ++ lists st)
shows m x c (upon {st = st} a o e (is_loose z t) d) s r k =
    shows m x (omega arith) d s r (listed_lower st (λ i. z (rw i at r)) k)
shows {v = v} m x c (upon a o e (is_done {st = st} z i t) d) s r (inl j) = let w : 0 < cnt v.tail x =
    rw (start_own (omega arith) d t) at s in rw (j, i) (simp counts (omega arith))
shows m x c (upon a o e (is_done z i t) d) s r (inr k) = shows m x (omega arith) d s r k
shows m x c (upon a o e (is_owner z i t u) d) s r (inl j) = rw (j, i) (simp counts (omega arith))
shows {v = v} m x c (upon a o e (is_owner {x = y} {st = st} z i t u) d) s r (inr k) = let w =
    shows m y (omega arith) d (hot_start t) r k in simp counts (omega (arith, simp counts at w))
shows m x c (upon a o e (is_mark {s = p} z i t) d) s r (inl j) = rw (j, i) (simp counts (omega arith))
shows m x c (upon a o e (is_mark z i t) d) s r (inr k) = let w = shows m x (omega arith) d s r k in
    simp counts (omega (arith, simp counts at w))
shows m x c bottom s r k = elim k [ ]

goes_out : {q ln head : ℕ} {next : ℕ → ℕ} {S : List ℕ} {p : Point} {g : Regs} {ins outs : List ℕ}
    → Loose q next ln head S g p ins outs → g.op ≢ 2 → outs ≡ []
goes_out (e1 a) h = refl
goes_out (e2 a b) h = refl
goes_out e28_off h = refl
goes_out e29 h = refl
goes_out (d1 a) h = refl
goes_out (d2 a b) h = refl
goes_out (d3 a b) h = refl
goes_out (d4 a b) h = refl
goes_out (d5 a b c) h = refl
goes_out (d6 a b) h = refl
goes_out (d7 a b) h = absurd (h a)

-- with no dequeue on the stack, no node is going out
pub none_leaving : {top q : ℕ} {v : View} {fr : ℕ → Frame} {n : ℕ} {st : Stack} {b : Bool} → Pile top q v fr n st b
    → ((j : ℕ) → j < n → Works q (fr j) → (fr j).op ≢ 2) → leaving st ≡ []
none_leaving bottom h = refl
none_leaving (upon {l = l} a o e (is_loose {st = st} z t) d) h =
    rw (goes_out t (h l a o)) (none_leaving d (λ j k. h j (omega arith)))
none_leaving (upon a o e (is_done z i t) d) h = none_leaving d (λ j k. h j (omega arith))
none_leaving (upon a o e (is_owner z i t u) d) h = none_leaving d (λ j k. h j (omega arith))
none_leaving (upon a o e (is_mark z i t) d) h = none_leaving d (λ j k. h j (omega arith))

-- ---- a level whose work is done is taken off the queue by a higher one

-- the same facts with other words of the levels' queues
abbrev pub with_lq : View → (ℕ → ℕ) → View
with_lq v lq = record { ln = v.ln; lq = lq; next = v.next; head = v.head; tail = v.tail; settled = v.settled }

pub taken_off : {top q : ℕ} {v : View} {fr : ℕ → Frame} {n k : ℕ} {st : Stack} → n ≤ top → 1 ≤ q → Pile top q v fr n st true
    → Highest v.lq q k n → Listed k st
    → Pile top q (with_lq v (put v.lq k 0)) fr n st false
taken_off {q = q} {v = v} {k = k} c q≥ (upon {l = l} a o e (is_loose {st = st} z t) d) h s =
    let s' = highest_lower st z h s in
    let other = put_other v.lq k 0 l (λ i. z (rw (sym i) at h.registered)) in
    upon' a o e (is_loose (rw other z) t) (taken_off (omega arith) q≥ d (lower_highest (listed_below d s') a h) s')
taken_off {top} {q} {v} {fr} {k = k} c q≥ (upon {l = l} a o e (is_done {st = st} z i t) d) h s =
    let k= = highest_top a z h d s in
    let off : put v.lq k 0 l ≢ q = rw (sym k=) (rw (put_same v.lq k 0) (omega arith)) in
    upon' a o e (is_loose off e28_off)
    (keep_all v (with_lq v (put v.lq k 0)) fr fr l (lists st ++ flight st) (omega arith) (λ j m. refl) (λ j m. refl)
    (λ j m. put_other v.lq k 0 j (omega arith)) (λ y m. refl)
    (λ j m n. the_same refl [] (sym (append-nil v.settled)) (λ y r. refl))
    (omega arith) (λ y. simp counts (omega arith)) (λ r. refl) d)
