-- Walks along the links: they end, they grow shorter by a step, and they stand still with the nodes that they pass.
use Prim.Native.Nat.{ℕ, zero, suc, ◌+◌, ◌≤◌, ◌<◌}
use mathlib.Core.Path.{◌≡◌, refl, sym, ◌∙◌}
use mathlib.Core.Logic.{◌≢◌, ◌⊎◌, inl, inr}
use mathlib.Core.Bool.{Bool, true, false}
use mathlib.Core.List.{List, [], ◌∷◌, ◌++◌}
use native.Mathlib.Omega.{arith}
use lib.Dec.{eqb}
use lib.ListN.{length, length-append}
use Rattle.words.specs.declared.Frame.{Frame}
use Rattle.lists.specs.Count.{Same, same, apart, same?, hit, cnt, cnt_cons, cnt_nil}
use Rattle.table.specs.Points.{Point}
use Rattle.chains.specs.Seg.{Seg, stop, link}
use Rattle.chains.proofs.Members.{either}
use Rattle.invariant.specs.Ghost.{Stack, lists, follow}
use Rattle.invariant.specs.Facts.{Regs, View, Cut, Linked, e10, e11, e12, e19, e20, e23, e24, e25, e26, e27, e28}
use Rattle.invariant.specs.Facts.{is_loose, is_done, is_owner, is_mark, Pile, bottom, upon}
use Rattle.invariant.proofs.Below.{Leads, follow_in}
use Rattle.costs.specs.Costs.{Ends, ends, goes}

pub ends_some : {f : ℕ → ℕ} {c d : ℕ} → Ends f c d → 1 ≤ d
ends_some (ends e) = omega arith
ends_some (goes r) = omega arith

-- one load less
pub record Shorter (f : ℕ → ℕ) (c d : ℕ) : Type 0 where
  pub left : ℕ
  pub walk : Ends f c left
  pub less : d ≡ suc left

pub ends_next : {f : ℕ → ℕ} {c d : ℕ} → Ends f c d → f c ≢ 0 → Shorter f (f c) d
ends_next (ends e) h = absurd (h e)
ends_next (goes {d = d} r) h = record { left = d; walk = r; less = omega arith }

pub ends_at : {f : ℕ → ℕ} {c d e : ℕ} → d ≡ e → Ends f c d → Ends f c e
ends_at h r = rw h at r

-- more loads do no harm
ends_up : {f : ℕ → ℕ} {c d : ℕ} → Ends f c d → Ends f c (suc d)
ends_up (ends e) = ends e
ends_up (goes r) = goes (ends_up r)

pub ends_add : {f : ℕ → ℕ} {c d : ℕ} (k : ℕ) → Ends f c d → Ends f c (k + d)
ends_add zero r = ends_at (omega arith) r
ends_add (suc k) r = ends_at (omega arith) (ends_up (ends_add k r))

-- the nodes xs, into which all their links lead, kept theirs
pub ends_same : {f g : ℕ → ℕ} {c d : ℕ} (xs : List ℕ) → ((y : ℕ) → 0 < cnt y xs → g y ≡ f y)
    → ((y : ℕ) → 0 < cnt y xs → Leads (f y) xs) → 0 < cnt c xs → Ends f c d → Ends g c d
ends_same {c = c} xs h k m (ends e) = ends (h c m ∙ e)
ends_same {f} {g} {c} xs h k m (goes {d = d} r) = by (k c m) (λ n. ends_same xs h k n r)
  where
    by : Leads (f c) xs → (0 < cnt (f c) xs → Ends g (f c) d) → Ends g c (suc d)
    by (inl e) ih = ends (h c m ∙ e)
    by (inr n) ih = goes {c = c} {d = d} (rw (h c m) (ih n))

-- ---- along a stretch

-- what follows a stretch ends it, or ends within k loads
abbrev pub Then : (ℕ → ℕ) → ℕ → ℕ → Type 0
Then f t k = (t ≡ 0) ⊎ Ends f t k

-- from a pointer s that is c's link
from_at : {f : ℕ → ℕ} {c k s t : ℕ} {xs : List ℕ} → Seg f s xs t → s ≡ f c → Then f t k → Ends f c (suc (length xs + k))
from_at (stop e) i (inl z) = ends (sym i ∙ e ∙ z)
from_at {k = k} (stop e) i (inr r) = ends_at {d = suc k} (omega arith) (goes {d = k} (rw (sym e ∙ i) at r))
from_at {f} {c} {k} (link {x = x} {xs = ys} e r) i h =
    let w : Ends f x (suc (length ys + k)) = from_at r refl h in
    ends_at {d = suc (suc (length ys + k))} (omega arith) (goes {d = suc (length ys + k)} (rw (sym e ∙ i) at w))

pub from : {f : ℕ → ℕ} {c t k : ℕ} {xs : List ℕ} → Seg f (f c) xs t → Then f t k → Ends f c (suc (length xs + k))
from g h = from_at g refl h

pub along : {f : ℕ → ℕ} {s t k : ℕ} (c : ℕ) (xs : List ℕ) → Seg f s xs t → Then f t k → 0 < cnt c xs → Ends f c (length xs + k)
along c [] g h m = absurd (omega (arith, cnt_nil c))
along {f} {k = k} c (x ∷ xs) (link p g) h m = by (eqb c x) (same? c x) (rw cnt_cons at m) (along c xs g h)
  where
    by : (b : Bool) → Same c x b → 0 < hit b + cnt c xs → (0 < cnt c xs → Ends f c (length xs + k))
        → Ends f c (length (x ∷ xs) + k)
    by true (same e) n ih = ends_at (omega arith) (from (rw (sym e) at g) h)
    by false (apart e) n ih = ends_at (omega arith) (ends_up (ih (omega arith)))

-- ---- in the lists of a pile

cut_ends : {f : ℕ → ℕ} {p r t k : ℕ} {w : List ℕ} (c : ℕ) → Cut f p w r t → Then f t k → 0 < cnt c (p ∷ w)
    → Ends f c (length (p ∷ w) + k)
cut_ends {f} {p} {r} {t} {k} {w} c u h m = by (either c (p ∷ u.block) u.rest (rw u.whole at m))
  where
    long : length w ≡ length u.block + length u.rest
    long = rw u.whole (length-append u.block u.rest)

    by : (0 < cnt c (p ∷ u.block)) ⊎ (0 < cnt c u.rest) → Ends f c (length (p ∷ w) + k)
    by (inl n) = ends_at (omega (arith, long)) (ends_add (length u.rest + k) (along {k = 0} c (p ∷ u.block) u.ends (inl refl) n))
    by (inr n) = ends_at (omega (arith, long)) (ends_add (suc (length u.block)) (along c u.rest u.hangs h n))

piece_ends : {top : ℕ} {next : ℕ → ℕ} {tail o t p k : ℕ} {w : List ℕ} {i : Point} {g : Regs} (c : ℕ)
    → Linked top next tail o t p w g i → Then next t k → 0 < cnt c (p ∷ w) → Ends next c (length (p ∷ w) + k)
piece_ends {p = p} {w = w} c (e10 a b s j) f h = along c (p ∷ w) s f h
piece_ends {p = p} {w = w} c (e11 a b s j) f h = along c (p ∷ w) s f h
piece_ends {p = p} {w = w} c (e12 a b s j z) f h = along c (p ∷ w) s f h
piece_ends c (e19 a u j) f h = cut_ends c u f h
piece_ends c (e20 a u j) f h = cut_ends c u f h
piece_ends c (e23 a b u j) f h = cut_ends c u f h
piece_ends c (e24 a b u j) f h = cut_ends c u f h
piece_ends {p = p} {w = w} c (e25 a b s j) f h = along c (p ∷ w) s f h
piece_ends {p = p} {w = w} c (e26 a b s j) f h = along c (p ∷ w) s f h
piece_ends {p = p} {w = w} c (e27 a b s j) f h = along c (p ∷ w) s f h
piece_ends {p = p} {w = w} c (e28 a s) f h = along c (p ∷ w) s f h

-- what follows the hot list, where walks in the lists end
pub follows : {next : ℕ → ℕ} (st : Stack) → ((c : ℕ) → 0 < cnt c (lists st) → Ends next c (length (lists st)))
    → Then next (follow st) (length (lists st))
follows {next} st h = by (follow_in st)
  where
    by : Leads (follow st) (lists st) → Then next (follow st) (length (lists st))
    by (inl e) = inl e
    by (inr m) = inr (h (follow st) m)

-- a walk in the lists ends, within as many loads as they have nodes
pub walk_ends : {top q : ℕ} {v : View} {fr : ℕ → Frame} {n : ℕ} {st : Stack} {b : Bool} (c : ℕ) → Pile top q v fr n st b
    → 0 < cnt c (lists st) → Ends v.next c (length (lists st))
walk_ends c bottom h = absurd (omega (arith, cnt_nil c))
walk_ends c (upon a o e (is_loose z t) d) h = walk_ends c d h
walk_ends c (upon a o e (is_done z i t) d) h = walk_ends c d h
walk_ends {v = v} c (upon a o e (is_owner {x = x} {st = st} z i t u) d) h =
    by (either c x (lists st) h) (λ y m. walk_ends y d m)
  where
    by : (0 < cnt c x) ⊎ (0 < cnt c (lists st)) → ((y : ℕ) → 0 < cnt y (lists st) → Ends v.next y (length (lists st)))
        → Ends v.next c (length (x ++ lists st))
    by (inl m) ih = ends_at (sym (length-append x (lists st))) (along c x t.linked (follows st ih) m)
    by (inr m) ih = ends_at (sym (length-append x (lists st))) (ends_add (length x) (ih c m))
walk_ends {v = v} c (upon a o e (is_mark {s = p} {w = w} {st = st} z i t) d) h =
    by (either c (p ∷ w) (lists st) h) (λ y m. walk_ends y d m)
  where
    by : (0 < cnt c (p ∷ w)) ⊎ (0 < cnt c (lists st)) → ((y : ℕ) → 0 < cnt y (lists st) → Ends v.next y (length (lists st)))
        → Ends v.next c (length (p ∷ (w ++ lists st)))
    by (inl m) ih = ends_at (sym (length-append (p ∷ w) (lists st))) (piece_ends c t (follows st ih) m)
    by (inr m) ih = ends_at (sym (length-append (p ∷ w) (lists st))) (ends_add (length (p ∷ w)) (ih c m))
