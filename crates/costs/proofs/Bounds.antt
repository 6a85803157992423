-- A queue has at most the table's nodes, and an operation that runs has taken fewer steps than its bound.
use Prim.Native.Nat.{ℕ, ◌+◌, ◌*◌, ◌≤◌, ◌<◌}
use mathlib.Core.Path.{◌≡◌}
use mathlib.Core.Bool.{Bool, true, false, cond}
use mathlib.Core.List.{List}
use native.Mathlib.Omega.{arith}
use lib.Dec.{eqb}
use Rattle.words.specs.declared.Sizes.{Sizes}
use Rattle.lists.specs.Count.{Same, same, apart, same?}
use Rattle.lists.proofs.Short.{once_short}
use Rattle.state.specs.Step.{State}
use Rattle.table.specs.Points.{Point, number_of, E1, E2, E3, E4, E5, E6, E7, E8, E9, E10, E11, E12, E13, E14, E15, E16, E17, E18}
use Rattle.words.specs.declared.Frame.{Frame}
use Rattle.table.specs.Points.{E19, E20, E21, E22, E23, E24, E25, E26, E27, E28, E29, D1, D2, D3, D4, D5, D6, D7, Unknown, point_of}
use Rattle.invariant.proofs.Own.{own_le}
use Rattle.invariant.proofs.Words.{early_at}
use Rattle.costs.specs.Costs.{base, Turned, first, second, Spent}
use Rattle.costs.specs.Bounds.{RunsBelow, FewNodes}
use Rattle.costs.proofs.Pays.{base_one}
use Rattle.costs.proofs.Rests.{found}

-- ---- a queue has at most N nodes

pub few_nodes : (s : Sizes) (q : ℕ) (W : State) (front : List ℕ) → FewNodes s q W front
few_nodes s q W front d xs h = once_short s.nodes xs (λ x. omega (arith, h x, own_le s.queues W.mem.uses q x))
    (λ x m. d.nodes x (omega (arith, h x, own_le s.queues W.mem.uses q x)))

-- ---- while it runs

base_le : (op : ℕ) → base op ≤ 6
unfolding base
base_le op = by (eqb op 2)
  where
    by : (t : Bool) → cond t 6 0 ≤ 6
    by true = omega arith
    by false = omega arith

module _ (top q v w l : ℕ) (next : ℕ → ℕ) (head op k m c s : ℕ) where
  -- a step less than at the end
  record Low (p : Point) : Type 0 where
    pub enqueue : op ≡ 1 → number_of p < 31 → s ≤ l * w + v + 8
    pub dequeue : s ≤ l * w + v + 20

  upto : (p : Point) (y x : ℕ) → x ≤ v + 8 → s + y ≤ base op + l * w + x → Low p
  upto p y x h u = record { enqueue = λ o n. omega (arith, base_one op (omega arith)); dequeue = omega (arith, base_le op) }

  turned : (p : Point) (i : ℕ) → 31 ≤ number_of p → i ≤ 5 → Turned top q v w l next head op k m c s i → Low p
  turned p i n h (first u) = record { enqueue = λ o z. absurd (omega arith); dequeue = omega arith }
  turned p i n h (second g u) = record { enqueue = λ o z. absurd (omega arith); dequeue = omega arith }

  low : (p : Point) → Spent top q v w l next head op k m c s p → Low p
  low E1 (g, u) = upto E1 (l * w) 0 (omega arith) u
  low E2 (g, u) = upto E2 (l * w) 1 (omega arith) u
  low E3 (g, u) = upto E3 (k * w + w) 2 (omega arith) u
  low E4 (g, u) = upto E4 (k * w + w) 3 (omega arith) u
  low E5 (g, u) = upto E5 (k * w + w) 4 (omega arith) u
  low E6 (g, u) = upto E6 (k * w + w) 5 (omega arith) u
  low E7 (g, u) = upto E7 0 2 (omega arith) u
  low E8 (g, u) = upto E8 0 3 (omega arith) u
  low E9 (g, u) = upto E9 0 4 (omega arith) u
  low E10 u = upto E10 u.left (v + 5) (omega arith) u.upto
  low E11 (g, u) = upto E11 0 (v + 5) (omega arith) u
  low E12 (g, u) = upto E12 0 (v + 6) (omega arith) u
  low E13 (g, u) = upto E13 (m * w + w + w) 5 (omega arith) u
  low E14 (g, u) = upto E14 (m * w + w + w) 6 (omega arith) u
  low E15 (g, u) = upto E15 w 5 (omega arith) u
  low E16 u = by (eqb m top) (same? m top)
    where
      by : (t : Bool) → Same m top t → Low E16
      by true (same e) = upto E16 u.left 0 (omega arith) (omega (arith, u.tail e))
      by false (apart e) = upto E16 (u.left + (m * w + w)) 1 (omega arith) (omega (arith, u.level e))
  low E17 (g, u) = upto E17 0 0 (omega arith) u
  low E18 (g, u) = upto E18 0 1 (omega arith) u
  low E19 u = upto E19 u.left (v + 2) (omega arith) u.upto
  low E20 (g, u) = upto E20 0 (v + 2) (omega arith) u
  low E21 (g, u) = upto E21 0 0 (omega arith) u
  low E22 (g, u) = upto E22 0 1 (omega arith) u
  low E23 u = upto E23 u.left (v + 2) (omega arith) u.upto
  low E24 (g, u) = upto E24 0 (v + 2) (omega arith) u
  low E25 (g, u) = upto E25 0 (v + 3) (omega arith) u
  low E26 (g, u) = upto E26 0 (v + 4) (omega arith) u
  low E27 (g, u) = upto E27 0 (v + 5) (omega arith) u
  low E28 (g, u) = upto E28 0 (v + 7) (omega arith) u
  low E29 (g, u) = upto E29 0 (v + 8) (omega arith) u
  low D1 u = turned D1 0 (omega arith) (omega arith) u
  low D2 u = turned D2 1 (omega arith) (omega arith) u
  low D3 u = turned D3 2 (omega arith) (omega arith) u
  low D4 u = turned D4 3 (omega arith) (omega arith) u
  low D5 u = turned D5 4 (omega arith) (omega arith) u
  low D6 (g, u) = record { enqueue = λ o n. absurd (omega arith); dequeue = omega arith }
  low D7 u = record { enqueue = λ o n. absurd (omega arith); dequeue = omega arith }
  low Unknown u = absurd u

pub runs_below : (s : Sizes) (q v : ℕ) (W : State) (front : List ℕ) → RunsBelow s q v W front
runs_below s q v W front d paid l on =
    record { enqueue = λ o. omega (arith, at.enqueue o (early o)); operation = omega (arith, at.dequeue) }
  where
    f : Frame
    f = W.frames l

    at : Low s.levels q v (v + 6) l W.mem.next (W.mem.head q) f.op f.k.0 f.m.0 f.c.0 f.steps
        (point_of f.point)
    at =
        low s.levels q v (v + 6) l W.mem.next (W.mem.head q) f.op f.k.0 f.m.0 f.c.0 f.steps
        (point_of f.point) (paid l on)

    -- an enqueue is at no D point
    early : f.op ≡ 1 → number_of (point_of f.point) < 31
    early o = let r = found l d.pile (d.listed l on) in rw r.is (early_at r.point r.here o)
