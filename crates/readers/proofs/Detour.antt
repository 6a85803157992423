-- A step of the copy's dequeue: the table's makes the same step, or it waits, where the copy's looks at a level that only it has to pass.
use Prim.Native.Nat.{ℕ, suc, ◌-◌, ◌≤◌, ◌<◌}
use mathlib.Core.Path.{◌≡◌, refl, ◌∙◌}
use mathlib.Core.Bool.{Bool, true, false}
use native.Mathlib.Omega.{arith}
use lib.Dec.{eqb}
use Rattle.words.specs.declared.Frame.{Frame}
use Rattle.words.specs.Layout.{level}
use Rattle.table.specs.declared.After.{After}
use Rattle.table.specs.declared.After.TheVariants.{Go}
use Rattle.table.specs.Points.{E3, E4, E7, number_of, point_of}
use Rattle.table.specs.Frames.{at, set_k, below_k_to, to, below_k, counted}
use Rattle.table.specs.Laws.{if_other}
use Rattle.table.specs.Table.{row}
use Rattle.lists.specs.Count.{Same, same, apart, same?}
use Rattle.state.specs.Mem.{Mem}
use Rattle.state.specs.Step.{mem_after, then, row_of}
use Rattle.invariant.specs.Ghost.{Item, Stack}
use Rattle.invariant.specs.Facts.{regs, View, Here}
use Rattle.drains.proofs.Lift.{Bumped}
use Rattle.readers.proofs.Alike.{twin, Alike, Standing, beside, looks, Both, go, end, below_k_holds, looks_lower}
use Rattle.readers.proofs.Rows.{row_paired, then_both, mem_alike}

-- f is the frame of the table's dequeue, g that of the copy's, which makes a step
pub data Follows (top l q : ℕ) (A B : Mem) (f g : Frame) : Type 0 where
  together : Both top l q (then A (row_of top l f) (counted f)) (then B (row_of (suc top) top g) (counted g))
      → Alike top l q (mem_after A (row_of top l f)) (mem_after B (row_of (suc top) top g)) → Follows top l q A B f g
  waits : (h : Frame) → then B (row_of (suc top) top g) (counted g) ≡ Go h → Standing top l q f h
      → Alike top l q A (mem_after B (row_of (suc top) top g)) → Follows top l q A B f g

module _ {top l q : ℕ} where
  -- where the one goes on, the other does
  gone : {a b : After} (f : Frame) → Both top l q a b → a ≡ Go f → (h : Frame) × (b ≡ Go h) × Standing top l q f h
  gone f (go {f = e} {g = h} st) i = let z : e ≡ f = cc in (h, refl, rw z at st)
  gone f end i = let z : ◌≡◌ {A = ℕ} 0 1 = cc in absurd (omega arith)

  -- having looked at level k it looks at the next lower one, or stands where the table's dequeue stands
  looked : (e f : Frame) (m s k : ℕ) → l ≤ k → k < top → Bumped top e.m.0 m → below_k E7 E3 (set_k (level l) e) ≡ Go f
      → (h : Frame) × (below_k E7 E3 (twin (at (number_of E3) (set_k (level k) e)) m s) ≡ Go h) × Standing top l q f h
  unfolding below_k_to
  looked e f m s k a b w i = by (eqb k l) (same? k l)
    where
      g : Frame
      g = twin (at (number_of E3) (set_k (level k) e)) m s

      by : (t : Bool) → Same k l t → (h : Frame) × (below_k E7 E3 g ≡ Go h) × Standing top l q f h
      by true (same z) = rw z (gone f (below_k_holds (at (number_of E3) (set_k (level l) e)) m s w E7 E3) i)
      by false (apart z) =
          let lower = looks_lower g (λ y. omega arith) in
          (at (number_of E3) (set_k (level (k - 1)) g), lower, looks e (k - 1) (omega arith) (omega arith) w i)

  pub step_beside : {A B : Mem} {v : View} {i : Item} {st : Stack} {b b' : Bool} → l < top → (f g : Frame) → Alike top l q A B
      → Standing top l q f g → g.queue.0 ≡ q → Here top q v l (regs f) (point_of f.point) i st b b' → Follows top l q A B f g
  unfolding row counted point_of
  step_beside {v = v} low f _ r (beside {m = m} {s = s} w) on h =
      let rows = row_paired low r (counted f) m (counted (twin f m s)).steps w v (point_of f.point) h in
      together (then_both low r (counted f) (counted (twin f m s)) rows) (mem_alike low r rows)
  step_beside {B = B} low f _ r (looks {m = m} {s = s} e k a b w i) on h =
      let g = counted (twin (at (number_of E3) (set_k (level k) e)) m s) in
      let off = if_other (B.lq k) e.queue.0 (to E4 g) (below_k E7 E3 g) (λ z. r.between k a b (z ∙ on)) in
      let next = looked e f m g.steps k a b w i in
      waits next.0 (off ∙ next.1) next.2 r
