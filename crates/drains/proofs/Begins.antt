-- Where a dequeue is accepted: nothing runs at its level or above, and no lower level has a dequeue on its queue.
use Prim.Native.Nat.{ℕ, ◌+◌, ◌-◌, ◌≤◌, ◌<◌}
use mathlib.Core.Path.{◌≡◌, refl, ap}
use mathlib.Core.Logic.{◌≢◌}
use mathlib.Core.Bool.{Bool, true, false, not, ◌&&◌}
use mathlib.Core.List.{List}
use native.Mathlib.Omega.{arith}
use lib.Dec.{eqb}
use borrow.Author.Tests.{eq-eqb, ne_eqb, lt-leb}
use Rattle.words.specs.declared.Queue.{Queue}
use Rattle.words.specs.declared.Sizes.{Sizes}
use Rattle.words.specs.declared.Frame.{Frame}
use Rattle.words.specs.Layout.{level, node, frame_of, put_frame}
use Rattle.words.specs.Laws.{within_is}
use Rattle.answers.specs.Said.{says}
use Rattle.table.specs.Points.{D1}
use Rattle.conditions.specs.declared.Sought.TheVariants.{Running, DequeueOn}
use Rattle.conditions.specs.Conditions.{sought, no_level, no_queue, busy, dequeued}
use Rattle.begins.specs.Begin.{begun, unless, dequeue_why, dequeue_sized}
use Rattle.lists.specs.Count.{Same, same, apart, same?}
use Rattle.state.specs.View.{frames}
use Rattle.state.proofs.Seen.{frame_is}
use Rattle.demand.proofs.Begins.{none_sought}

no_dequeue : (q : Queue) (f : Frame) → (f.op ≡ 2 → f.queue.0 ≢ q.0) → sought (DequeueOn q) f ≡ false
unfolding sought
no_dequeue q f h = by (eqb f.op 2) (same? f.op 2)
  where
    by : (b : Bool) → Same f.op 2 b → b && eqb f.queue.0 q.0 ≡ false
    by true (same e) = ne_eqb f.queue.0 q.0 (h e)
    by false (apart e) = refl

module _ (s : Sizes) (t : List ℕ) (l : ℕ) (q : Queue) where
  pub none_dequeued : l ≤ s.levels → ((j : ℕ) → j < l → (frames s t j).op ≡ 2 → (frames s t j).queue.0 ≢ q.0)
      → dequeued s t (level l) q ≡ false
  unfolding dequeued
  none_dequeued low alone = none_sought s t (DequeueOn q) 0 l (λ j a b. off j (omega arith))
    where
      off : (j : ℕ) → j < l → sought (DequeueOn q) (frame_of s t (level j)) ≡ false
      off j h = no_dequeue q (frame_of s t (level j)) (rw (frame_is s t j (omega arith)) at (alone j h))

  none_busy : ((j : ℕ) → l ≤ j → (frames s t j).op ≡ 0) → busy s t (level l) ≡ false
  unfolding busy sought
  none_busy idle = none_sought s t Running l (s.levels - l) off
    where
      off : (j : ℕ) → l ≤ j → j < l + (s.levels - l) → sought Running (frame_of s t (level j)) ≡ false
      off j a b = ap not (eq-eqb (frame_of s t (level j)).op 0 (rw (frame_is s t j (omega arith)) at (idle j a)))

  pub dequeue_begins : l < s.levels → 1 ≤ q.0 → q.0 ≤ s.queues → ((j : ℕ) → l ≤ j → (frames s t j).op ≡ 0)
      → ((j : ℕ) → j < l → (frames s t j).op ≡ 2 → (frames s t j).queue.0 ≢ q.0)
      → dequeue_sized s t (level l) q ≡ (says tt, put_frame s t (level l) (begun 2 D1 q (node 0)))
  unfolding dequeue_sized dequeue_why unless no_level no_queue
  dequeue_begins low some known idle alone =
      let has_level : no_level s (level l) ≡ false = lt-leb s.levels l low in
      let has_queue : no_queue s q ≡ false = ap not (within_is 1 s.queues q.0 some known) in
      rw (has_level, has_queue, none_busy idle, none_dequeued (omega arith) alone)
