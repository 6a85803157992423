-- The dequeues on the copy of a table reached from fresh, where no dequeue is on the queue.
use Prim.Native.Nat.{ℕ, zero, suc, ◌+◌, ◌*◌, ◌≤◌, ◌<◌}
use mathlib.Core.Path.{◌≡◌, refl, sym, ap, ◌∙◌}
use mathlib.Core.Logic.{◌≢◌}
use mathlib.Core.Bool.{Bool, true, false, cond}
use mathlib.Core.List.{List}
use native.Mathlib.Omega.{arith}
use native.Mathlib.Nat.{mul-le-mul_right}
use lib.Dec.{eqb}
use lib.ListN.{length}
use borrow.Author.Tests.{ne_eqb}
use Rattle.words.specs.declared.Sizes.{Sizes}
use Rattle.words.specs.declared.Queue.{Queue}
use Rattle.words.specs.declared.Frame.{Frame}
use Rattle.words.specs.Layout.{level, queue}
use Rattle.words.specs.Laws.{measured_fits}
use Rattle.answers.specs.Said.{says}
use Rattle.lists.specs.Count.{cnt, eqb_self}
use Rattle.lists.proofs.Short.{once_short}
use Rattle.state.specs.Step.{State}
use Rattle.state.specs.View.{memory, frames, state_of}
use Rattle.state.proofs.Seen.{frame_idle}
use Rattle.invariant.specs.Sound.{own_in, Sound}
use Rattle.invariant.proofs.Own.{own_le, own_user}
use Rattle.demand.specs.History.{Event, still_in}
use Rattle.demand.specs.Demand.{Reached}
use Rattle.demand.proofs.World.{dequeue_begun}
use Rattle.demand.proofs.Moments.{Nobody, still_once}
use Rattle.limits.specs.Limits.{Capped}
use Rattle.limits.proofs.Calls.{Good}
use Rattle.limits.proofs.Theorems.{limits_suffice, here}
use Rattle.words.specs.Copy.{taller, raised}
use Rattle.waiting.specs.Waiting.{dequeue_at, drain_steps, waiting_in}
use Rattle.drains.specs.Naming.{naming}
use Rattle.drains.proofs.Drain.{FewUsers, Rested, Quietly, begins_draining, begins_quietly, Answers, drain_ends}
use Rattle.drains.proofs.Raised.{room_raised, memory_raised, frames_raised}
use Rattle.drains.proofs.Lift.{lifted, sound_lifted}
use Rattle.drains.proofs.Paid.{paid_lifted}
use Rattle.drains.proofs.Users.{naming_le, users_few, once_fewer}

-- levels from L on run nothing
pub idle_past : (s : Sizes) (t : List ℕ) (j : ℕ) → s.levels ≤ j → (frames s t j).op ≡ 0
idle_past s t j h = frame_idle s t j (λ low. absurd (omega arith))

module _ (s : Sizes) (es : List Event) (t : List ℕ) (q : Queue) (reached : Reached s es t) (some : 1 ≤ q.0) (known : q.0 ≤ s.queues)
    (only : (j : ℕ) → (frames s t j).op ≡ 2 → (frames s t j).queue.0 ≢ q.0) where
  cap : Capped s
  cap = limits_suffice s es t reached

  pub good : Good s s.nodes t
  good = here s es t reached cap

  abbrev front : List ℕ
  front = good.fronts q.0

  abbrev S : State
  S = state_of s t

  sound : Sound s q.0 S front
  sound = good.world.sound q.0 some known

  -- the queue's nodes are nodes of the table
  own_real : (y : ℕ) → 0 < own_in s q.0 S y → (1 ≤ y) × (y ≤ s.nodes)
  own_real y h = sound.nodes y (omega (arith, own_le s.queues (memory s t).uses q.0 y))

  -- where the queue has no more than k nodes of the user's
  module _ (k : ℕ) (small : k ≤ s.nodes) (few : FewUsers s q.0 k S) where
    abbrev W : State
    W = lifted s.levels (state_of s t)

    pub rested : Rested (taller s) s.levels q.0 (raised s t) k W
    rested =
        let room = (measured_fits t s good.sized).room in
        let same_frames = frames_raised s t room in
        record {
          seen =
              record {
                low = omega arith;
                room = room_raised s t room;
                mem = sym (memory_raised s t room);
                front = front;
                sound = sound_lifted s q.0 S front sound;
                paid = paid_lifted s q.0 s.nodes S front sound (good.paid q.0 some known);
                few = few;
                only = λ j ne. only j;
                idle = λ j h. idle_past s t j (omega arith);
                alone = λ j h. rw same_frames (only j);
                above = λ j h. ap (λ (F : ℕ → Frame). (F j).op) same_frames ∙ idle_past s t j (omega arith);
              };
          still = ap (λ (F : ℕ → Frame). (F s.levels).op) same_frames ∙ idle_past s t s.levels (omega arith);
          off = idle_past s t s.levels (omega arith);
        }

    -- (L + 3) × (N + 7) steps are enough for each, and there are k dequeues that return a node and one that does not
    pub ends_with : Answers 0 k (Quietly (taller s) s.levels q.0 k W) (waiting_in s t q)
    ends_with =
        let e = (s.levels + 3) * (s.nodes + 7) in
        let all = mul-le-mul_right e small in
        let begun = begins_draining (taller s) s.levels q.0 (raised s t) k W rested in
        let r =
        drain_ends (taller s) s.levels q.0 e (omega (arith, cap)) (omega arith) (drain_steps s) 0 k
        (dequeue_at (taller s) (queue q.0) (level s.levels) (raised s t)) (dequeue_begun W s.levels q.0) begun (omega arith) in
        record {
          count = r.count;
          is = r.is;
          most = r.most;
          exact = λ z. r.exact (begins_quietly (taller s) s.levels q.0 (raised s t) k W z);
        }

  -- no more than the nodes whose use names the queue
  pub ends_few : (n : ℕ) × (waiting_in s t q ≡ says n) × (n ≤ naming s t q s.nodes)
  ends_few =
      let up_to : (xs : List ℕ) → ((y : ℕ) → cnt y xs ≤ own_in s q.0 S y) → (y : ℕ) → 0 < cnt y xs → y ≤ s.nodes =
      λ xs h y z. (own_real y (omega (arith, h y))).1 in
      let r =
      ends_with (naming s t q s.nodes) (naming_le s t q s.nodes)
      (λ xs h u. users_few s t q s.nodes xs (omega arith) h u (up_to xs h)) in
      (r.count, r.is, omega (arith, r.most))

  -- at a quiet moment just those that are still in
  module _ (quiet : Nobody s t q) where
    abbrev still : List ℕ
    still = still_in s t q

    once : (y : ℕ) → cnt y still ≡ cond (eqb y q.0) 0 (own_in s q.0 S y)
    once = still_once s t good.fronts good.sized good.world q quiet

    owned : (y : ℕ) → cnt y still ≤ own_in s q.0 S y
    owned y = by (eqb y q.0) (once y)
      where
        by : (b : Bool) → cnt y still ≡ cond b 0 (own_in s q.0 S y) → cnt y still ≤ own_in s q.0 S y
        by true e = omega arith
        by false e = omega arith

    one : (y : ℕ) → own_in s q.0 S y ≤ 1
    one y = own_le s.queues (memory s t).uses q.0 y

    real : (y : ℕ) → 0 < cnt y still → s.queues < y
    real y h = own_user s.queues (memory s t).uses q.0 y (omega (arith, owned y, one y)) other
      where
        sentinel : cnt q.0 still ≡ 0
        sentinel = rw (eqb_self q.0) at (once q.0)

        other : y ≢ q.0
        other e = omega (arith, sentinel, ap (λ (z : ℕ). cnt z still) e)

    small : length still ≤ s.nodes
    small = once_short s.nodes still (λ y. omega (arith, owned y, one y)) (λ y h. own_real y (omega (arith, owned y)))

    few : FewUsers s q.0 (length still) S
    few xs h u = once_fewer still xs (λ y. omega (arith, h y, one y)) (λ y. part y (cnt y xs) refl)
      where
        part : (y n : ℕ) → cnt y xs ≡ n → cnt y xs ≤ cnt y still
        part y zero e = omega arith
        part y (suc n) e =
            let user = u y (omega arith) in
            let all : cnt y still ≡ own_in s q.0 S y = rw (ne_eqb y q.0 (λ z. omega (arith, known))) at (once y) in
            omega (arith, h y)

    all_still : Quietly (taller s) s.levels q.0 (length still) (lifted s.levels S)
    all_still = record { others = λ j ne. quiet.nobody j; users = still; owned = owned; real = real; long = omega arith }

    pub ends_still : waiting_in s t q ≡ says (length still)
    ends_still =
        let r = ends_with (length still) small few in
        r.is ∙ ap says (omega (arith, r.exact all_still))
