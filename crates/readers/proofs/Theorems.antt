-- The theorems: on a table reached from fresh, where the count is n, dequeues at an idle level return n nodes, the copy's.
use Prim.Native.Nat.{ℕ, ◌≤◌, ◌<◌}
use mathlib.Core.Path.{◌≡◌, refl}
use mathlib.Core.Logic.{◌≢◌}
use mathlib.Core.Bool.{false}
use mathlib.Core.List.{List}
use native.Mathlib.Omega.{arith}
use Rattle.words.specs.declared.Level.{Level}
use Rattle.words.specs.declared.Queue.{Queue}
use Rattle.words.specs.declared.Sizes.{Sizes}
use Rattle.words.specs.Layout.{level}
use Rattle.words.specs.Laws.{measured_fits}
use Rattle.answers.specs.Said.{says}
use Rattle.conditions.specs.Conditions.{no_level, busy}
use Rattle.conditions.specs.Laws.{has_level}
use Rattle.state.specs.Step.{State}
use Rattle.state.specs.View.{memory, frames, state_of}
use Rattle.invariant.specs.Sound.{Sound}
use Rattle.demand.specs.History.{Event}
use Rattle.demand.specs.Demand.{Reached}
use Rattle.demand.proofs.World.{IdleFrom}
use Rattle.demand.proofs.Begins.{not_busy}
use Rattle.costs.proofs.Bounds.{few_nodes}
use Rattle.limits.specs.Limits.{Capped}
use Rattle.limits.proofs.Calls.{Good}
use Rattle.limits.proofs.Theorems.{limits_suffice, here}
use Rattle.words.specs.Copy.{taller, raised}
use Rattle.waiting.specs.Waiting.{dequeue_at, drained_at, drain_steps, waiting_in, waiting_of}
use Rattle.drains.proofs.Drain.{FewUsers, Rested}
use Rattle.drains.proofs.Lift.{lifted}
use Rattle.drains.proofs.Stuck.{rested}
use Rattle.drains.proofs.Theorems.{says_counted}
use Rattle.readers.specs.Drawn.{drawn_at}
use Rattle.readers.specs.Readers.{WaitingRead, SameNodes}
use Rattle.readers.proofs.Drawn.{drawn_counted}
use Rattle.readers.proofs.Alike.{Alike}
use Rattle.readers.proofs.Together.{reads_alike}

-- the dequeues on the table answer n, and return what those on the copy return
abbrev Read : Sizes → List ℕ → Queue → Level → ℕ → Type 0
Read s t q l n =
    (drained_at s q l (drain_steps s) t ≡ says n)
    × (drawn_at s q l (drain_steps s) t ≡ drawn_at (taller s) q (level s.levels) (drain_steps s) (raised s t))

module _ (s : Sizes) (es : List Event) (t : List ℕ) (q : Queue) (l : Level) (reached : Reached s es t) (low : l.0 < s.levels)
    (some : 1 ≤ q.0) (known : q.0 ≤ s.queues) (only : (j : ℕ) → (frames s t j).op ≡ 2 → (frames s t j).queue.0 ≢ q.0)
    (idle : IdleFrom l.0 (state_of s t)) where
  cap : Capped s
  cap = limits_suffice s es t reached

  good : Good s s.nodes t
  good = here s es t reached cap

  abbrev S : State
  S = state_of s t

  sound : Sound s q.0 S (good.fronts q.0)
  sound = good.world.sound q.0 some known

  few : FewUsers s q.0 s.nodes S
  few xs h u = few_nodes s q.0 S (good.fronts q.0) sound xs h

  rested_here : Rested s l.0 q.0 t s.nodes S
  rested_here =
      record {
        seen =
            record {
              low = low;
              room = (measured_fits t s good.sized).room;
              mem = refl;
              front = good.fronts q.0;
              sound = sound;
              paid = good.paid q.0 some known;
              few = few;
              only = λ j ne. only j;
              idle = λ j h. idle j (omega arith);
              alone = λ j h. only j;
              above = λ j h. idle j (omega arith);
            };
        still = idle l.0 (omega arith);
        off = idle l.0 (omega arith);
      }

  -- seen as memory the copy is the table; an idle level is not registered
  alike : Alike s.levels l.0 q.0 (memory s t) (memory s t)
  alike =
      record {
        head = λ j. refl;
        tail = λ j. refl;
        next = λ j. refl;
        ln = λ j h. refl;
        lq = λ j h. refl;
        between = λ j h i e. (sound.registered j e).0 (idle j h);
      }

  read_as_counted : (n : ℕ) → waiting_in s t q ≡ says n → Read s t q l n
  read_as_counted n h =
      let copy = rested s es t q reached some known only s.nodes (omega arith) few in
      reads_alike s l.0 q.0 low cap s.nodes s.nodes t (raised s t) S (lifted s.levels S) rested_here copy alike
      (drain_steps s) n h

module _ (s : Sizes) (es : List Event) (t : List ℕ) (q : Queue) (l : Level) where
  read : Reached s es t → no_level s l ≡ false → busy s t l ≡ false → (n : ℕ) → waiting_of t q ≡ says n → Read s t q l n
  read reached has free n h =
      let counted = says_counted s es t q n reached h in
      let queue = counted.0 in
      let low = has_level s l has in
      let sized = (here s es t reached (limits_suffice s es t reached)).sized in
      let idle = not_busy s t sized l free low in
      read_as_counted s es t q l reached low queue.some queue.known queue.only idle n counted.1

  pub waiting_read : WaitingRead s es t q l
  waiting_read reached has free n h = (read reached has free n h).0

  pub same_nodes : SameNodes s es t q l
  same_nodes reached has free n h =
      let both = read reached has free n h in
      (both.1, omega (arith, drawn_counted s q l (drain_steps s) 0 n (dequeue_at s q l t) both.0))
