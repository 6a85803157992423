-- How a stretch of a chain is read, walked, joined and turned.
use Prim.Native.Nat.{ℕ, ◌+◌, ◌≤◌, ◌<◌}
use mathlib.Core.Path.{◌≡◌, refl, sym, ap, ◌∙◌}
use mathlib.Core.List.{List, [], ◌∷◌, ◌++◌}
use mathlib.Core.Bool.{Bool, true, false}
use native.Mathlib.Omega.{arith}
use lib.Dec.{eqb}
use Rattle.lists.specs.Count.{Same, same, apart, same?, hit, cnt, cnt_cons, cnt_nil, cnt_self, counts}
use Rattle.state.specs.Mem.{put, put_same, put_other}
use Rattle.chains.specs.Member.{Last}
use Rattle.chains.specs.Seg.{Seg, stop, link}

-- only the words of its own nodes matter
pub seg_same : {f g : ℕ → ℕ} {s : ℕ} {xs : List ℕ} {t : ℕ} → ((x : ℕ) → 0 < cnt x xs → g x ≡ f x) → Seg f s xs t
    → Seg g s xs t
seg_same h (stop e) = stop e
seg_same h (link {x = x} {xs = xs} e r) =
    link e (rw (sym (h x (cnt_self x xs))) at (seg_same (λ y (m : 0 < cnt y xs). h y (simp counts (omega arith))) r))

-- a store at another node
pub seg_put : {f : ℕ → ℕ} (a v : ℕ) {s : ℕ} {xs : List ℕ} {t : ℕ} → cnt a xs ≡ 0 → Seg f s xs t → Seg (put f a v) s xs t
seg_put {f} a v {xs = xs} z e = seg_same (λ x m. put_other f a v x (λ q. (let w : cnt x xs ≡ 0 = rw q z in omega arith))) e

-- two parts
pub seg_split : {f : ℕ → ℕ} {s : ℕ} (xs : List ℕ) {ys : List ℕ} {t : ℕ} → Seg f s (xs ++ ys) t
    → (m : ℕ) × Seg f s xs m × Seg f m ys t
seg_split {s = s} [] e = (s, stop refl, e)
seg_split (x ∷ xs) (link p e) = let r = seg_split xs e in (r.0, link p r.1, r.2)

pub seg_join : {f : ℕ → ℕ} {s : ℕ} {xs : List ℕ} {m : ℕ} {ys : List ℕ} {t : ℕ} → Seg f s xs m → Seg f m ys t
    → Seg f s (xs ++ ys) t
seg_join (stop p) e = rw p e
seg_join (link p d) e = link p (seg_join d e)

pub seg_head : {f : ℕ → ℕ} {s x : ℕ} {xs : List ℕ} {t : ℕ} → Seg f s (x ∷ xs) t → s ≡ x
seg_head (link p e) = p

pub seg_rest : {f : ℕ → ℕ} {s x : ℕ} {xs : List ℕ} {t : ℕ} → Seg f s (x ∷ xs) t → Seg f (f x) xs t
seg_rest (link p e) = e

-- a stretch of no nodes
pub seg_nil : {f : ℕ → ℕ} {s t : ℕ} → Seg f s [] t → s ≡ t
seg_nil (stop e) = e

-- one step along a stretch of one or more nodes: to a later node of it, or to what follows, and then from its last
pub data Walk (f : ℕ → ℕ) (c t : ℕ) (xs ws : List ℕ) : Type 0 where
  on : 0 < cnt (f c) ws → Walk f c t xs ws
  out : f c ≡ t → Last c xs → Walk f c t xs ws

walk_first : {f : ℕ → ℕ} {s c x t : ℕ} {ws : List ℕ} → f c ≡ s → c ≡ x → Seg f s ws t → Walk f c t (x ∷ ws) ws
walk_first e i (stop z) = out (e ∙ z) ([], ap (λ y. y ∷ []) (sym i))
walk_first {f} {c = c} e i (link {x = y} {xs = ys} z r) = on (let k : f c ≡ y = e ∙ z in rw k (cnt_self y ys))

walk_later : {f : ℕ → ℕ} {c x y t : ℕ} {ws : List ℕ} → Walk f c t (y ∷ ws) ws → Walk f c t (x ∷ y ∷ ws) (y ∷ ws)
walk_later (on h) = on (simp counts (omega arith))
walk_later {x = x} (out e l) = out e (x ∷ l.0, ap (λ t. x ∷ t) l.1)

pub walk : {f : ℕ → ℕ} {s x t : ℕ} {ws : List ℕ} (c : ℕ) → Seg f s (x ∷ ws) t → 0 < cnt c (x ∷ ws) → Walk f c t (x ∷ ws) ws
walk {f} {x = x} {t = t} {ws = []} c (link p g) h = by (eqb c x) (same? c x) (rw cnt_cons at h)
  where
    by : (b : Bool) → Same c x b → 0 < hit b + cnt c [] → Walk f c t (x ∷ []) []
    by true (same e) k = walk_first (ap f e) e g
    by false (apart e) k = absurd (omega (arith, cnt_nil c))
walk {f} {x = x} {t = t} {ws = y ∷ ws} c (link p g) h = by (eqb c x) (same? c x) (rw cnt_cons at h) (walk c g)
  where
    by : (b : Bool) → Same c x b → 0 < hit b + cnt c (y ∷ ws) → (0 < cnt c (y ∷ ws) → Walk f c t (y ∷ ws) ws)
        → Walk f c t (x ∷ y ∷ ws) (y ∷ ws)
    by true (same e) k ih = walk_first (ap f e) e g
    by false (apart e) k ih = walk_later (ih (omega arith))

-- the link of the last is turned
pub seg_turn : {f : ℕ → ℕ} {s t : ℕ} (pre : List ℕ) (c v : ℕ) → cnt c pre ≡ 0 → Seg f s (pre ++ c ∷ []) t
    → Seg (put f c v) s (pre ++ c ∷ []) v
seg_turn {f} pre c v z g = let r = seg_split pre g in
    seg_join (seg_put c v z r.1) (link (seg_head r.2) (stop (put_same f c v)))

-- the same where c is said to be the last of xs, in which it stands once
pub seg_turn_last : {f : ℕ → ℕ} {s t : ℕ} {xs : List ℕ} (c v : ℕ) → Last c xs → cnt c xs ≤ 1 → Seg f s xs t
    → Seg (put f c v) s xs v
seg_turn_last c v l o g =
    rw l.1 (seg_turn l.0 c v (let h = simp counts at (rw l.1 at o) in omega arith) (rw l.1 at g))
