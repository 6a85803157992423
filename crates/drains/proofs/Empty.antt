-- A queue on which nothing runs and whose tail is its head has its sentinel alone: no node of the user's.
use Prim.Native.Nat.{ℕ, ◌≤◌, ◌<◌}
use mathlib.Core.Path.{◌≡◌, sym, ◌∙◌}
use mathlib.Core.Bool.{Bool, true, false, cond}
use mathlib.Core.List.{List, [], ◌∷◌}
use native.Mathlib.Omega.{arith}
use lib.Dec.{eqb}
use borrow.Author.Tests.{ne_eqb}
use Rattle.words.specs.declared.Sizes.{Sizes}
use Rattle.lists.specs.Count.{cnt, cnt_nil, cnt_self}
use Rattle.lists.specs.Beginning.{without}
use Rattle.lists.proofs.Without.{cnt_without}
use Rattle.state.specs.Step.{State}
use Rattle.state.specs.Queues.{On}
use Rattle.invariant.specs.Sound.{own_in, Sound, Chained}
use Rattle.invariant.proofs.Own.{own_le}
use Rattle.invariant.proofs.Rest.{quiet}
use Rattle.demand.specs.Demand.{first_of}
use Rattle.demand.proofs.Alone.{First}
use Rattle.demand.proofs.Quiet.{first_is}
use Rattle.demand.proofs.Moments.{own_sentinel}
use Rattle.demand.proofs.Among.{first_none}

-- a number left out makes no other stand more often
pub cnt_less : (y x : ℕ) (xs : List ℕ) → cnt y (without x xs) ≤ cnt y xs
cnt_less y x xs = by (eqb y x) (cnt_without y x xs)
  where
    by : (b : Bool) → cnt y (without x xs) ≡ cond b 0 (cnt y xs) → cnt y (without x xs) ≤ cnt y xs
    by true e = omega arith
    by false e = omega arith

pub empty_none : (s : Sizes) (q : ℕ) (W : State) (front : List ℕ) → Sound s q W front → ((j : ℕ) → ¬ On q (W.frames j))
    → W.mem.tail q ≡ W.mem.head q → (y : ℕ) → s.queues < y → own_in s q W y ≡ 0
empty_none s q W front d nobody met y user = by (without q c.nodes) (λ x. cnt_less x q c.nodes) kept (first_none first met)
  where
    c : Chained s q W front
    c = quiet s q W front d nobody

    once : (x : ℕ) → cnt x c.nodes ≤ 1
    once x = rw (c.once x) (own_le s.queues W.mem.uses q x)

    real : (x : ℕ) → 0 < cnt x c.nodes → 1 ≤ x
    real x h = (d.nodes x (omega (arith, c.once x, once x))).0

    first : First W.mem q (first_of (without q c.nodes))
    first =
        first_is W.mem q c.nodes c.linked c.ends once real
        (c.once q ∙ own_sentinel s.queues W.mem.uses q d.high)

    kept : cnt y (without q c.nodes) ≡ own_in s q W y
    kept = rw (ne_eqb y q (λ z. omega (arith, d.high))) at (cnt_without y q c.nodes) ∙ c.once y

    by : (xs : List ℕ) → ((x : ℕ) → cnt x xs ≤ cnt x c.nodes) → cnt y xs ≡ own_in s q W y → first_of xs ≡ 0 → own_in s q W y ≡ 0
    by [] part e z = sym e ∙ cnt_nil y
    by (x ∷ xs) part e z = absurd (omega (arith, real x (omega (arith, part x, cnt_self x xs))))
