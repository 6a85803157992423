-- All queues at once: a step and a begin keep the cost facts of every queue, where no queue has more than v nodes.
use Prim.Native.Nat.{ℕ, ◌+◌, ◌≤◌, ◌<◌}
use mathlib.Core.Path.{◌≡◌, refl}
use mathlib.Core.Logic.{◌≢◌}
use mathlib.Core.Bool.{Bool, true, false}
use mathlib.Core.List.{List}
use native.Mathlib.Omega.{arith}
use lib.Dec.{eqb}
use borrow.Author.Tests.{lt-ltb}
use Rattle.words.specs.declared.Sizes.{Sizes}
use Rattle.words.specs.declared.Node.{Node}
use Rattle.words.specs.declared.Frame.{Frame}
use Rattle.words.specs.Layout.{queue, node}
use Rattle.answers.specs.Most.{enqueue_most, operation_most}
use Rattle.table.specs.declared.After.TheVariants.{Done}
use Rattle.table.specs.Frames.{counted}
use Rattle.table.specs.Points.{E1, D1}
use Rattle.begins.specs.Begin.{begun}
use Rattle.lists.specs.Count.{Same, same, apart, same?}
use Rattle.state.specs.Step.{State, then, row_of, stepped}
use Rattle.state.specs.Queues.{On}
use Rattle.invariant.specs.Sound.{Stepping}
use Rattle.invariant.proofs.Step.{sound_step}
use Rattle.demand.proofs.World.{World, IdleFrom, enqueue_begun, dequeue_begun}
use Rattle.demand.proofs.Apart.{apart_step, apart_enqueue, apart_dequeue}
use Rattle.costs.specs.Costs.{Paid, Few}
use Rattle.costs.specs.Bounds.{Below, AtMost, Paying}
use Rattle.costs.proofs.Paid.{paid_step, paid_apart, paid_enqueue, paid_dequeue}
use Rattle.costs.proofs.Bounds.{runs_below}

-- no queue has more than v nodes
abbrev pub AllFew : Sizes → ℕ → State → Type 0
AllFew s v S = (q : ℕ) → 1 ≤ q → q ≤ s.queues → Few s q v S

-- the cost facts of every queue
abbrev pub AllPaid : Sizes → ℕ → State → Type 0
AllPaid s v S = (q : ℕ) → 1 ≤ q → q ≤ s.queues → Paid s q v S

-- below the cap the steps word counts each step
pub counts_one : (f : Frame) → f.steps < 65535 → (counted f).steps ≡ f.steps + 1
unfolding counted
counts_one f h = rw (lt-ltb f.steps 65535 h)

module _ (s : Sizes) (S : State) (fronts : ℕ → List ℕ) (w : World s S fronts) (v : ℕ) (paid : AllPaid s v S) where
  -- ---- a step

  -- the facts after a step of level l, and the bound where it ends the operation
  pub record Stepped (l : ℕ) : Type 0 where
    pub after : AllPaid s v (stepped s.levels l S)
    pub most : (n : Node) → then S.mem (row_of s.levels l (S.frames l)) (counted (S.frames l)) ≡ Done n
        → AtMost l v (S.frames l).op (counted (S.frames l)).steps

  -- of queue q by its own move, and of the others because nothing of theirs moved
  pub all_step : AllFew s v S → (l q : ℕ) → l < s.levels → On q (S.frames l) → ((j : ℕ) → l < j → (S.frames j).op ≡ 0) → Stepped l
  all_step few l q low on top = record { after = after; most = mine.most }
    where
      here : (1 ≤ q) × (q ≤ s.queues)
      here = rw on.1 at (w.on_some l on.0)

      k : Stepping s q S l (fronts q)
      k = sound_step s q S (fronts q) (w.sound q here.0 here.1) l low on top

      mine : Paying s q v l S
      mine =
          paid_step s q v S (fronts q) (w.sound q here.0 here.1)
          (few q here.0 here.1) (paid q here.0 here.1) l low on top

      after : (r : ℕ) → 1 ≤ r → r ≤ s.queues → Paid s r v (stepped s.levels l S)
      after r a b = by (eqb r q) (same? r q)
        where
          by : (t : Bool) → Same r q t → Paid s r v (stepped s.levels l S)
          by true (same e) = rw e mine.paid
          by false (apart e) =
              paid_apart s r v S (stepped s.levels l S) (fronts r) (w.sound r a b)
              (apart_step s r q S a e (w.sound r a b).registered s.levels l on k.within) (paid r a b)

  -- ---- a begin

  module _ (l q : ℕ) (idle : IdleFrom l S) where
    nobody : (r : ℕ) → ¬ On r (S.frames l)
    nobody r h = h.0 (idle l (omega arith))

    pub all_enqueue : (n : ℕ) → 1 ≤ q → S.mem.uses n ≡ 0 → AllPaid s v (enqueue_begun S l q n)
    all_enqueue n some unused r a b = by (eqb r q) (same? r q)
      where
        by : (t : Bool) → Same r q t → Paid s r v (enqueue_begun S l q n)
        by true (same e) = rw e (paid_enqueue s q v S l n (rw e at (paid r a b)))
        by false (apart e) =
            paid_apart s r v S (enqueue_begun S l q n) (fronts r) (w.sound r a b)
            (apart_enqueue s r q S a e (w.sound r a b).registered l n (begun 1 E1 (queue q) (node n)) (nobody r)
            (omega arith, refl) unused)
            (paid r a b)

    pub all_dequeue : AllPaid s v (dequeue_begun S l q)
    all_dequeue r a b = by (eqb r q) (same? r q)
      where
        by : (t : Bool) → Same r q t → Paid s r v (dequeue_begun S l q)
        by true (same e) = rw e (paid_dequeue s q v S l (rw e at (paid r a b)))
        by false (apart e) =
            paid_apart s r v S (dequeue_begun S l q) (fronts r) (w.sound r a b)
            (apart_dequeue s r q S a e (w.sound r a b).registered l (begun 2 D1 (queue q) (node 0)) (nobody r) (omega arith, refl))
            (paid r a b)

  -- ---- while they run

  module _ (j : ℕ) (runs : (S.frames j).op ≢ 0) where
    below : Below j v (S.frames j).op (S.frames j).steps
    below =
        let q = (S.frames j).queue.0 in
        let here = w.on_some j runs in
        runs_below s q v S (fronts q) (w.sound q here.0 here.1) (paid q here.0 here.1) j (runs, refl)

    pub enqueue_below : (S.frames j).op ≡ 1 → (S.frames j).steps < enqueue_most j v
    enqueue_below o = below.enqueue o

    pub operation_below : (S.frames j).steps < operation_most j v
    operation_below = below.operation

    -- where the bound is not above 65,535, the steps word counts each step
    pub counts_each : operation_most j v ≤ 65535 → (counted (S.frames j)).steps ≡ (S.frames j).steps + 1
    counts_each h = counts_one (S.frames j) (omega (arith, operation_below))
