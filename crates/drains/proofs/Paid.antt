-- The cost facts of the copy with one more level, from those of the table.
use Prim.Native.Nat.{ℕ, suc, ◌+◌, ◌<◌}
use mathlib.Core.Path.{◌≡◌, refl, sym, ◌∙◌}
use mathlib.Core.Logic.{◌≢◌, ◌⊎◌, inl, inr}
use mathlib.Core.Bool.{Bool}
use mathlib.Core.List.{List}
use native.Mathlib.Omega.{arith}
use Rattle.words.specs.declared.Sizes.{Sizes}
use Rattle.words.specs.declared.Frame.{Frame}
use Rattle.state.specs.Step.{State}
use Rattle.table.specs.Points.{Point, point_of, E1, E2, E3, E4, E5, E6, E7, E8, E9, E10, E11, E12, E13, E14, E15, E16, E17, E18}
use Rattle.table.specs.Points.{E19, E20, E21, E22, E23, E24, E25, E26, E27, E28, E29, D1, D2, D3, D4, D5, D6, D7, Unknown}
use Rattle.invariant.specs.Ghost.{Item, Stack, lists}
use Rattle.invariant.specs.Facts as facts
use Rattle.invariant.specs.Facts.{Regs, View, Here, is_owner}
use Rattle.invariant.specs.Sound.{view, Sound}
use Rattle.invariant.proofs.Below.{listed_below}
use Rattle.costs.specs.Costs.{Walked, Turned, first, second, Searched, Spent, Paid}
use Rattle.costs.proofs.Rests.{Found, found}
use Rattle.words.specs.Copy.{taller}
use Rattle.drains.proofs.Lift.{bump, Bumped, at_top, other, bumped, lifted, same_m}

-- ---- the facts of each point

module _ (top q v w l : ℕ) (next : ℕ → ℕ) (head op k m c s : ℕ) where
  lift_turned : {i : ℕ} → Turned top q v w l next head op k m c s i → Turned (suc top) q v w l next head op k (bump top m) c s i
  lift_turned (first a) = first a
  lift_turned (second a b) = second a b

  lift_walked : {x : ℕ} → Walked top q v w l next head op k m c s x → Walked (suc top) q v w l next head op k (bump top m) c s x
  lift_walked u = record { gone = u.gone; left = u.left; walk = u.walk; upto = u.upto }

  -- at E13 and E14 m is below l, and at E16 too where it is not the number of levels
  lift_spent : (p : Point) → ((p ≡ E13) ⊎ (p ≡ E14) → bump top m ≡ m) → (p ≡ E16 → m ≢ top → m ≢ suc top)
      → Spent top q v w l next head op k m c s p
      → Spent (suc top) q v w l next head op k (bump top m) c s p
  lift_spent E1 small below u = u
  lift_spent E2 small below u = u
  lift_spent E3 small below u = u
  lift_spent E4 small below u = u
  lift_spent E5 small below u = u
  lift_spent E6 small below u = u
  lift_spent E7 small below u = u
  lift_spent E8 small below u = u
  lift_spent E9 small below u = u
  lift_spent E10 small below u = lift_walked u
  lift_spent E11 small below u = u
  lift_spent E12 small below u = u
  lift_spent E13 small below (g, u) = (g, rw (small (inl refl)) u)
  lift_spent E14 small below (g, u) = (g, rw (small (inr refl)) u)
  lift_spent E15 small below u = u
  lift_spent E16 small below u = searched (bumped top m)
    where
      searched : {m' : ℕ} → Bumped top m m' → Searched (suc top) q v w l next head op k m' c s
      searched (at_top a b) = record {
        gone = u.gone;
        left = u.left;
        walk = u.walk;
        tail = λ e. u.tail a;
        level = λ n. absurd (n b);
      }
      searched (other a b) = record {
        gone = u.gone;
        left = u.left;
        walk = u.walk;
        tail = λ e. absurd (below refl a (sym b ∙ e));
        level = λ n. rw b (u.level a);
      }
  lift_spent E17 small below u = u
  lift_spent E18 small below u = u
  lift_spent E19 small below u = lift_walked u
  lift_spent E20 small below u = u
  lift_spent E21 small below u = u
  lift_spent E22 small below u = u
  lift_spent E23 small below u = lift_walked u
  lift_spent E24 small below u = u
  lift_spent E25 small below u = u
  lift_spent E26 small below u = u
  lift_spent E27 small below u = u
  lift_spent E28 small below u = u
  lift_spent E29 small below u = u
  lift_spent D1 small below u = lift_turned u
  lift_spent D2 small below u = lift_turned u
  lift_spent D3 small below u = lift_turned u
  lift_spent D4 small below u = lift_turned u
  lift_spent D5 small below u = lift_turned u
  lift_spent D6 small below u = u
  lift_spent D7 small below u = u
  lift_spent Unknown small below u = u

-- ---- what the invariant says of m

m13 : {top q l : ℕ} {v : View} {g : Regs} {i : Item} {st : Stack} {b b' : Bool} → Here top q v l g E13 i st b b' → g.m < l
m13 (is_owner a b c (facts.e13 x y z)) = z
m13 (facts.is_loose _ h) = elim h [ ]
m13 (facts.is_mark _ _ h) = elim h [ ]

m14 : {top q l : ℕ} {v : View} {g : Regs} {i : Item} {st : Stack} {b b' : Bool} → Here top q v l g E14 i st b b' → g.m < l
m14 (is_owner a b c (facts.e14 x y z w)) = z
m14 (facts.is_loose _ h) = elim h [ ]
m14 (facts.is_mark _ _ h) = elim h [ ]

m16 : {top q l : ℕ} {v : View} {g : Regs} {i : Item} {st : Stack} {b b' : Bool} → Here top q v l g E16 i st b b' → g.m ≢ top → g.m < l
m16 (is_owner a b c (facts.e16 x y z w)) = z
m16 (facts.is_loose _ h) = elim h [ ]
m16 (facts.is_mark _ _ h) = elim h [ ]

pub paid_lifted : (s : Sizes) (q v : ℕ) (W : State) (front : List ℕ) → Sound s q W front → Paid s q v W
    → Paid (taller s) q v (lifted s.levels W)
paid_lifted s q v W front d paid j on =
    lift_spent top q v (v + 6) j W.mem.next (W.mem.head q) f.op f.k.0 f.m.0 f.c.0 f.steps
    (point_of f.point) small below (paid j on)
  where
    top : ℕ
    top = s.levels

    f : Frame
    f = W.frames j

    r : Found s.levels q j (view q W.mem d.settled) W.frames (lists d.stack)
    r = found j d.pile (d.listed j on)

    low : j < s.levels
    low = listed_below d.pile (d.listed j on)

    small : (point_of f.point ≡ E13) ⊎ (point_of f.point ≡ E14) → bump s.levels f.m.0 ≡ f.m.0
    small (inl e) = same_m s.levels j f.m.0 low (m13 (rw (sym r.is ∙ e) at r.here))
    small (inr e) = same_m s.levels j f.m.0 low (m14 (rw (sym r.is ∙ e) at r.here))

    below : point_of f.point ≡ E16 → f.m.0 ≢ s.levels → f.m.0 ≢ suc s.levels
    below e n z = omega (arith, low, m16 (rw (sym r.is ∙ e) at r.here) n)
