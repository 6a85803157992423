-- The nodes drawn are as many as the count says.
use Prim.Native.Nat.{ℕ, zero, suc, ◌+◌}
use mathlib.Core.Path.{◌≡◌}
use mathlib.Core.Bool.{Bool, true, false}
use mathlib.Core.List.{List}
use native.Mathlib.Omega.{arith}
use lib.Dec.{eqb}
use lib.ListN.{length}
use borrow.Author.Tests.{eq-eqb, ne_eqb}
use Rattle.words.specs.declared.Level.{Level}
use Rattle.words.specs.declared.Queue.{Queue}
use Rattle.words.specs.declared.Sizes.{Sizes}
use Rattle.answers.specs.Said.{Said, refused, says, Step, going_on, ended}
use Rattle.steps.specs.Step.{step_sized}
use Rattle.lists.specs.Count.{Same, same, apart, same?}
use Rattle.waiting.specs.Waiting.{dequeue_at, drain_on, drained}
use Rattle.readers.specs.Drawn.{drawn_on, drawn}

module _ (s : Sizes) (q : Queue) (l : Level) where
  abbrev Counted : ℕ → Type 0
  Counted left = (n m : ℕ) (t : List ℕ) → drained s q l left n t ≡ says m → m ≡ n + length (drawn s q l left t)

  pub drawn_counted : (left : ℕ) → Counted left
  unfolding drained drain_on drawn drawn_on
  drawn_counted zero n m t h = let z : ◌≡◌ {A = ℕ} 0 1 = cc in absurd (omega arith)
  drawn_counted (suc left) n m t h = by (step_sized s t).0 (step_sized s t).1 (drawn_counted left) h
    where
      by : (x : Said Step) (u : List ℕ) → Counted left → drain_on s q l (drained s q l left) n x u ≡ says m
          → m ≡ n + length (drawn_on s q l (drawn s q l left) x u)
      by (says going_on) u on h = on n m u h
      by (says (ended e)) u on h = test (eqb e.node.0 0) (same? e.node.0 0)
        where
          test : (b : Bool) → Same e.node.0 0 b → m ≡ n + length (drawn_on s q l (drawn s q l left) (says (ended e)) u)
          test true (same z) =
              let none = eq-eqb e.node.0 0 z in
              let same_said : says n ≡ says m = rw none at h in
              let is : n ≡ m = cc in
              rw none (omega arith)
          test false (apart z) =
              let some = ne_eqb e.node.0 0 z in
              let rest = on (n + 1) m (dequeue_at s q l u) (rw some at h) in
              rw some (omega arith)
      by (refused r) u on h = let z : ◌≡◌ {A = ℕ} 0 1 = cc in absurd (omega arith)
