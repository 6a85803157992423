-- The invariant of the copy with one more level, from that of the table. A frame that walks from tail holds the number of levels as its m;
-- on the copy that number is one more. In the words of the copy the lower frames keep their m: so the invariant is that of a state in
-- which every m that is L reads L + 1, in whatever frame and at whatever point. No step of the new level reads those frames.
use Prim.Native.Nat.{ℕ, suc, ◌≤◌, ◌<◌}
use mathlib.Core.Path.{◌≡◌, refl, sym, ◌∙◌}
use mathlib.Core.Logic.{◌≢◌}
use mathlib.Core.Bool.{Bool, true, false, cond}
use mathlib.Core.List.{List}
use native.Mathlib.Omega.{arith}
use lib.Dec.{eqb}
use Rattle.words.specs.declared.Sizes.{Sizes}
use Rattle.words.specs.declared.Frame.{Frame}
use Rattle.words.specs.Layout.{level}
use Rattle.lists.specs.Count.{Same, same, apart, same?}
use Rattle.state.specs.Step.{State}
use Rattle.table.specs.Points.{Point}
use Rattle.table.specs.Frames.{set_m}
use Rattle.invariant.specs.Ghost.{Item, loose, owner, mark, Stack, origin}
use Rattle.invariant.specs.Facts as facts
use Rattle.invariant.specs.Facts.{Regs, regs, View, Hot, Aim, behind, before, NotPast, Walking, Unlinked, Linked, Here}
use Rattle.invariant.specs.Facts.{is_loose, is_done, is_owner, is_mark, Loose, Pile, bottom, upon}
use Rattle.invariant.specs.Sound.{Sound}
use Rattle.invariant.proofs.Keep.{upon'}
use Rattle.invariant.proofs.Levels.{raise}
use Rattle.words.specs.Copy.{taller}

-- ---- m on the copy

-- one more where it is the number of levels, and else as it was
unfoldable pub bump : ℕ → ℕ → ℕ
bump top m = cond (eqb m top) (suc top) m

pub data Bumped (top m m' : ℕ) : Type 0 where
  at_top : m ≡ top → m' ≡ suc top → Bumped top m m'
  other : m ≢ top → m' ≡ m → Bumped top m m'

pub bumped : (top m : ℕ) → Bumped top m (bump top m)
unfolding bump
bumped top m = by (eqb m top) (same? m top)
  where
    by : (t : Bool) → Same m top t → Bumped top m (cond t (suc top) m)
    by true (same e) = at_top e refl
    by false (apart e) = other e refl

-- a frame, its registers, and a state in which all frames have it so
abbrev pub lift : ℕ → Frame → Frame
lift top f = set_m (level (bump top f.m.0)) f

abbrev pub lift_regs : ℕ → Regs → Regs
lift_regs top g = record { op = g.op; n = g.n; k = g.k; p = g.p; c = g.c; a = g.a; r = g.r; m = bump top g.m }

abbrev pub lifted : ℕ → State → State
lifted top W = record { mem = W.mem; frames = λ j. lift top (W.frames j) }

-- ---- the facts of each point

-- the origin of a chain: the queue's own, or an owner's
pub data Origins (top o o' : ℕ) : Type 0 where
  own_chain : o ≡ top → o' ≡ suc top → Origins top o o'
  owned : o < top → o' ≡ o → Origins top o o'

module _ {top o o' : ℕ} where
  back : Origins top o o' → o' ≡ suc top → o ≡ top
  back (own_chain a b) e = a
  back (owned a b) e = absurd (omega arith)

  forth : Origins top o o' → o ≡ top → o' ≡ suc top
  forth (own_chain a b) e = b
  forth (owned a b) e = absurd (omega arith)

  off : Origins top o o' → o' ≢ suc top → o ≢ top
  off (own_chain a b) n e = n b
  off (owned a b) n e = omega arith

  out : Origins top o o' → o ≢ top → o' ≢ suc top
  out (own_chain a b) n e = n a
  out (owned a b) n e = omega arith

  keeps : Origins top o o' → o' ≢ suc top → o' ≡ o
  keeps (own_chain a b) n = absurd (n b)
  keeps (owned a b) n = b

-- an m below a level is as it was
pub same_m : (top l m : ℕ) → l < top → m < l → bump top m ≡ m
same_m top l m a b = by (bump top m) (bumped top m)
  where
    by : (m' : ℕ) → Bumped top m m' → m' ≡ m
    by m' (at_top e f) = absurd (omega arith)
    by m' (other e f) = f

module _ (top : ℕ) where
  lift_hot : {next : ℕ → ℕ} {o o' s t : ℕ} {x : List ℕ} → Origins top o o' → Hot top next o s t x → Hot (suc top) next o' s t x
  lift_hot r h = record { more = h.more; begins = h.begins; linked = h.linked; alone = λ e z. h.alone (back r e) z }

  lift_aim : {o o' s t p : ℕ} {P P' : Type 0} → Origins top o o' → (P → P') → Aim top o s t p P → Aim (suc top) o' s t p P'
  lift_aim r k (behind a b c) = behind (out r a) b c
  lift_aim r k (before a b c) = before a b (k c)

  lift_past : {o o' m m' : ℕ} → Origins top o o' → m' ≡ m → NotPast top o m → NotPast (suc top) o' m'
  lift_past r e h n = let z = keeps r n in omega (arith, h (off r n))

  lift_walking : {o o' m m' l c : ℕ} {x : List ℕ} → l < top → (m ≢ top → m < l) → Origins top o o' → Bumped top m m' → Walking top o m c x
      → Walking (suc top) o' m' c x
  lift_walking low small r (at_top a b) w = record {
    here = λ e. w.here (a ∙ sym (back r (sym e ∙ b)));
    above = λ n. (let z = keeps r n in omega (arith, w.above (off r n)));
    more = λ n. absurd (w.more (off r n) a);
  }
  lift_walking low small (own_chain y z) (other a b) w = record {
    here = λ e. absurd (omega (arith, small a));
    above = λ n. absurd (n z);
    more = λ n. absurd (n z);
  }
  lift_walking low small (owned y z) (other a b) w = record {
    here = λ e. w.here (omega arith);
    above = λ n. omega (arith, w.above (omega arith));
    more = λ n e. omega (arith, small a);
  }

  module _ {q l : ℕ} {ln lq next : ℕ → ℕ} {tail o o' s t : ℕ} {x lower : List ℕ} {done : Bool} (low : l < top)
      (r : Origins top o o') (g : Regs) where
    lift_unlinked : {p : Point} → Unlinked top q l ln lq next tail o s t x lower done g p
        → Unlinked (suc top) q l ln lq next tail o' s t x lower done (lift_regs top g) p
    lift_unlinked (facts.e3 a b) = facts.e3 a b
    lift_unlinked (facts.e4 a) = facts.e4 a
    lift_unlinked (facts.e5 a b) = facts.e5 a b
    lift_unlinked (facts.e6 a b) = facts.e6 a b
    lift_unlinked (facts.e7 a) = facts.e7 a
    lift_unlinked (facts.e8 a b) = facts.e8 a b
    lift_unlinked (facts.e9 a b) = facts.e9 a b
    lift_unlinked (facts.e13 a b c) = let e = same_m top l g.m low c in
        facts.e13 a (lift_aim r (lift_past r e) b) (rw e c)
    lift_unlinked (facts.e14 a b c d) = let e = same_m top l g.m low c in
        facts.e14 a (lift_aim r (lift_past r e) b) (rw e c) (rw e d)
    lift_unlinked (facts.e15 a b) = facts.e15 a (lift_aim r (forth r) b)
    lift_unlinked (facts.e16 a b c d) =
        facts.e16 a (lift_aim r (lift_walking low c r (bumped top g.m)) b) (small (bumped top g.m)) d
      where
        small : {m' : ℕ} → Bumped top g.m m' → m' ≢ suc top → m' < l
        small (at_top e f) n = absurd (n f)
        small (other e f) n = omega (arith, c e)
    lift_unlinked (facts.e17 a b) = facts.e17 a (lift_aim r (λ z. z) b)
    lift_unlinked (facts.e18 a b c) = facts.e18 a (lift_aim r (λ z. z) b) c
    lift_unlinked (facts.e21 a b c d) = facts.e21 a b c d
    lift_unlinked (facts.e22 a b c d e) = facts.e22 a b c d e

  module _ {next : ℕ → ℕ} {tail o o' t s : ℕ} {w : List ℕ} (r : Origins top o o') (g : Regs) where
    lift_linked : {p : Point} → Linked top next tail o t s w g p → Linked (suc top) next tail o' t s w (lift_regs top g) p
    lift_linked (facts.e10 a b c d) = facts.e10 (forth r a) b c d
    lift_linked (facts.e11 a b c d) = facts.e11 (forth r a) b c d
    lift_linked (facts.e12 a b c d e) = facts.e12 (forth r a) b c d e
    lift_linked (facts.e19 a b c) = facts.e19 (out r a) b c
    lift_linked (facts.e20 a b c) = facts.e20 (out r a) b c
    lift_linked (facts.e23 a b c d) = facts.e23 a (λ n. b (off r n)) c d
    lift_linked (facts.e24 a b c d) = facts.e24 a (λ n. b (off r n)) c d
    lift_linked (facts.e25 a b c d) = facts.e25 a (λ n. b (off r n)) c d
    lift_linked (facts.e26 a b c d) = facts.e26 a (forth r b) c d
    lift_linked (facts.e27 a b c d) = facts.e27 a (forth r b) c d
    lift_linked (facts.e28 a b) = facts.e28 (λ n. a (back r n)) b

  lift_loose : {q ln head : ℕ} {next : ℕ → ℕ} {S ins outs : List ℕ} {p : Point} (g : Regs) → Loose q next ln head S g p ins outs
      → Loose q next ln head S (lift_regs top g) p ins outs
  lift_loose g (facts.e1 a) = facts.e1 a
  lift_loose g (facts.e2 a b) = facts.e2 a b
  lift_loose g facts.e28_off = facts.e28_off
  lift_loose g facts.e29 = facts.e29
  lift_loose g (facts.d1 a) = facts.d1 a
  lift_loose g (facts.d2 a b) = facts.d2 a b
  lift_loose g (facts.d3 a b) = facts.d3 a b
  lift_loose g (facts.d4 a b) = facts.d4 a b
  lift_loose g (facts.d5 a b c) = facts.d5 a b c
  lift_loose g (facts.d6 a b) = facts.d6 a b
  lift_loose g (facts.d7 a b) = facts.d7 a b

  lift_here : {q l : ℕ} {v : View} {p : Point} {i : Item} {st : Stack} {b b' : Bool} (g : Regs) → l < top
      → Origins top (origin top st) (origin (suc top) st) → Here top q v l g p i st b b'
      → Here (suc top) q v l (lift_regs top g) p i st b b'
  lift_here g low r (is_loose a h) = is_loose a (lift_loose g h)
  lift_here g low r (is_done a b c) = is_done a b (forth r c)
  lift_here g low r (is_owner a b c h) = is_owner a b (lift_hot r c) (lift_unlinked low r g h)
  lift_here g low r (is_mark a b h) = is_mark a b (lift_linked r g h)

  pub origins : {q : ℕ} {v : View} {fr : ℕ → Frame} {n : ℕ} {st : Stack} {b : Bool} → n ≤ top → Pile top q v fr n st b
      → Origins top (origin top st) (origin (suc top) st)
  origins h bottom = own_chain refl refl
  origins h (upon {i = loose a b} m w e t d) = origins (omega arith) d
  origins h (upon {i = owner a b} m w e t d) = owned (omega arith) refl
  origins h (upon {i = mark a b} m w e t d) = origins (omega arith) d

  lift_pile : {q : ℕ} {v : View} {fr : ℕ → Frame} {n : ℕ} {st : Stack} {b : Bool} → n ≤ top → Pile top q v fr n st b
      → Pile (suc top) q v (λ j. lift top (fr j)) n st b
  lift_pile h bottom = bottom
  lift_pile {fr = fr} h (upon {l = l} m w e t d) =
      upon' m (record { busy = w.busy; known = w.known; queued = w.queued }) e
      (lift_here (regs (fr l)) (omega arith) (origins (omega arith) d) t) (lift_pile (omega arith) d)

-- ---- the invariant

pub sound_lifted : (s : Sizes) (q : ℕ) (W : State) (front : List ℕ) → Sound s q W front → Sound (taller s) q (lifted s.levels W) front
sound_lifted s q W front d = record {
  settled = d.settled;
  hot = d.hot;
  stack = d.stack;
  done = d.done;
  pile = raise (omega arith) (lift_pile s.levels (omega arith) d.pile);
  stand = record {
    hot = lift_hot s.levels (origins s.levels (omega arith) d.pile) d.stand.hot;
    settled = d.stand.settled;
    all = d.stand.all;
  };
  listed = d.listed;
  registered = d.registered;
  one = d.one;
  nodes = d.nodes;
  low = d.low;
  high = d.high;
  front_is = d.front_is;
}
