-- The theorems: the call on a table reached from fresh.
use Prim.Native.Nat.{ℕ, ◌≤◌}
use mathlib.Core.Path.{◌≡◌, refl, sym, ap, ◌∙◌}
use mathlib.Core.Logic.{◌≢◌}
use mathlib.Core.Bool.{Bool, true, false, cond, not}
use mathlib.Core.List.{List}
use native.Mathlib.Omega.{arith}
use borrow.Author.Tests.{not-false}
use Rattle.words.specs.declared.Sizes.{Sizes}
use Rattle.words.specs.declared.Queue.{Queue}
use Rattle.words.specs.Layout.{level, within}
use Rattle.words.specs.Laws.{within_low, within_high, within_is}
use Rattle.answers.specs.Said.{Said, refused, says}
use Rattle.conditions.specs.Conditions.{no_queue, dequeued}
use Rattle.state.specs.View.{frames}
use Rattle.demand.specs.History.{Event}
use Rattle.demand.specs.Demand.{Reached}
use Rattle.demand.proofs.Begins.{not_dequeued}
use Rattle.demand.proofs.Moments.{quietly}
use Rattle.limits.proofs.Theorems.{limits_suffice, here}
use Rattle.waiting.specs.Waiting.{waiting_in, waiting_sized, waiting_measured, waiting_of}
use Rattle.drains.specs.Naming.{naming}
use Rattle.drains.specs.Drains.{WaitingEnds, WaitingFew, WaitingQuiet}
use Rattle.drains.proofs.Begins.{none_dequeued}
use Rattle.drains.proofs.Stuck.{idle_past, ends_few, ends_still}

no_number : {r n : ℕ} → ◌≡◌ {A = Said ℕ} (refused r) (says n) → ⊥
no_number e = let z : ◌≡◌ {A = ℕ} 0 1 = cc in omega arith

-- one of the table's queues, on which no level dequeues
pub record Free (s : Sizes) (t : List ℕ) (q : Queue) : Type 0 where
  pub some : 1 ≤ q.0
  pub known : q.0 ≤ s.queues
  pub only : (j : ℕ) → (frames s t j).op ≡ 2 → (frames s t j).queue.0 ≢ q.0

module _ (s : Sizes) (es : List Event) (t : List ℕ) (q : Queue) where
  abbrev taken : Bool
  taken = dequeued s t (level s.levels) q

  -- what the call answers
  answer : Reached s es t → waiting_of t q ≡ cond (no_queue s q) (refused 4) (cond taken (refused 8) (waiting_in s t q))
  unfolding waiting_of waiting_measured waiting_sized
  answer r = let sized = (here s es t r (limits_suffice s es t r)).sized in rw sized

  free : Reached s es t → no_queue s q ≡ false → taken ≡ false → Free s t q
  unfolding no_queue
  free r known alone =
      let one = not-false (within 1 s.queues q.0) known in
      let sized = (here s es t r (limits_suffice s es t r)).sized in
      record {
        some = within_low 1 s.queues q.0 one;
        known = within_high 1 s.queues q.0 one;
        only = not_dequeued s t sized (level s.levels) q alone (omega arith) (idle_past s t);
      }

  is_few : Reached s es t → Free s t q → (n : ℕ) × (waiting_in s t q ≡ says n) × (n ≤ naming s t q s.nodes)
  is_few r f = ends_few s es t q r f.some f.known f.only

  -- where it answers a number
  pub says_counted : (n : ℕ) → Reached s es t → waiting_of t q ≡ says n → Free s t q × (waiting_in s t q ≡ says n)
  says_counted n r h = by (no_queue s q) refl taken refl (sym (answer r) ∙ h)
    where
      by : (a : Bool) → no_queue s q ≡ a → (b : Bool) → taken ≡ b → cond a (refused 4) (cond b (refused 8) (waiting_in s t q)) ≡ says n
          → Free s t q × (waiting_in s t q ≡ says n)
      by true i b e z = absurd (no_number z)
      by false i true e z = absurd (no_number z)
      by false i false e z = (free r i e, z)

  pub waiting_ends : WaitingEnds s es t q
  waiting_ends r known = by taken refl
    where
      by : (b : Bool) → taken ≡ b → (n : ℕ) × (waiting_of t q ≡ cond b (refused 8) (says n))
      by true e = (0, answer r ∙ rw (known, e))
      by false e = let few = is_few r (free r known e) in (few.0, answer r ∙ rw (known, e) few.1)

  pub waiting_few : WaitingFew s es t q
  waiting_few n r h =
      let counted = says_counted n r h in
      let few = is_few r counted.0 in
      let same : says n ≡ says few.0 = sym counted.1 ∙ few.1 in
      let is : n ≡ few.0 = cc in
      omega (arith, few.2)

  pub waiting_quiet : WaitingQuiet s es t q
  unfolding no_queue
  waiting_quiet r h =
      let sized = (here s es t r (limits_suffice s es t r)).sized in
      let nobody = quietly s t q sized h in
      let only : (j : ℕ) → (frames s t j).op ≡ 2 → (frames s t j).queue.0 ≢ q.0 =
      λ j two on. nobody.nobody j ((λ (z : (frames s t j).op ≡ 0). omega arith), on) in
      let known : no_queue s q ≡ false = ap not (within_is 1 s.queues q.0 nobody.some_queue nobody.queue_known) in
      let alone = none_dequeued s t s.levels q (omega arith) (λ j low. only j) in
      answer r ∙ rw (known, alone) (ends_still s es t q r nobody.some_queue nobody.queue_known only nobody)
