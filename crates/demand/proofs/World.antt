-- All queues at once, over memory and frames: what holds before a step or a begin holds after it, and each queue's frozen
-- beginning is still a beginning of what was returned and what stands in front then.
use Prim.Native.Nat.{ℕ, ◌≤◌, ◌<◌}
use mathlib.Core.Path.{◌≡◌, refl, sym, ap, ◌∙◌}
use mathlib.Core.Logic.{◌≢◌, ◌⊎◌, inl, inr}
use mathlib.Core.Bool.{Bool, true, false}
use mathlib.Core.List.{List, ◌++◌}
use native.Mathlib.Omega.{arith}
use lib.Dec.{eqb}
use Rattle.words.specs.declared.Sizes.{Sizes}
use Rattle.words.specs.declared.Queue.{Queue}
use Rattle.words.specs.declared.Frame.{Frame}
use Rattle.words.specs.declared.Word.TheVariants.{LevelNode, LevelQueue, Head, Tail, Next, Use}
use Rattle.words.specs.Layout.{queue, node}
use Rattle.table.specs.Table.{Row}
use Rattle.table.specs.Points.{E1, D1, D3, number_of}
use Rattle.begins.specs.Begin.{begun}
use Rattle.lists.specs.Count.{Same, same, apart, same?}
use Rattle.lists.specs.Beginning.{Beginning}
use Rattle.state.specs.Mem.{put, put_same, put_other, upd}
use Rattle.state.specs.Step.{State, mem_after, row_of, stepped}
use Rattle.state.specs.Queues.{On, Within, load, store, free, out_of, Apart}
use Rattle.invariant.specs.Sound.{Sound}
use Rattle.invariant.specs.Sound.{Stepping}
use Rattle.invariant.proofs.Step.{sound_step}
use Rattle.invariant.proofs.Begin.{sound_enqueue, sound_dequeue}
use Rattle.invariant.proofs.Others.{sound_apart}
use Rattle.demand.proofs.Rows.{next_frame, next_frame_holds}
use Rattle.demand.proofs.Apart.{own_use, apart_step, apart_dequeue, apart_enqueue}

-- ---- begins

-- the frames from level l on run nothing
abbrev pub IdleFrom : ℕ → State → Type 0
IdleFrom l S = (j : ℕ) → l ≤ j → (S.frames j).op ≡ 0

-- S with an operation begun at level l
abbrev pub enqueue_begun : State → ℕ → ℕ → ℕ → State
enqueue_begun S l q n =
    record { mem = upd S.mem (Use (node n)) q; frames = put S.frames l (begun 1 E1 (queue q) (node n)) }

abbrev pub dequeue_begun : State → ℕ → ℕ → State
dequeue_begun S l q = record { mem = S.mem; frames = put S.frames l (begun 2 D1 (queue q) (node 0)) }

-- ---- all queues

pub record World (s : Sizes) (S : State) (fronts : ℕ → List ℕ) : Type 0 where
  pub sound : (q : ℕ) → 1 ≤ q → q ≤ s.queues → Sound s q S (fronts q)
  -- a frame that runs is on one of the queues
  pub on_some : (j : ℕ) → (S.frames j).op ≢ 0 → (1 ≤ (S.frames j).queue.0) × ((S.frames j).queue.0 ≤ s.queues)
  -- a free node points to none
  pub free_ends : (n : ℕ) → s.queues < n → S.mem.uses n ≡ 0 → S.mem.next n ≡ 0

-- a step of the frame at level l
pub record Moving (s : Sizes) (S : State) (fronts : ℕ → List ℕ) (l : ℕ) (q : ℕ) : Type 0 where
  pub op : (S.frames l).op ≤ 2
  pub point : (S.frames l).op ≡ 1 → (S.frames l).point < 31
  pub within : Within s q S (row_of s.levels l (S.frames l))
  pub fronts' : ℕ → List ℕ
  pub world : World s (stepped s.levels l S) fronts'
  pub begins : Beginning (fronts q) (out_of (row_of s.levels l (S.frames l)) ++ fronts' q)
  pub others : (r : ℕ) → r ≢ q → fronts' r ≡ fronts r
  pub linked : (S.frames l).point ≡ number_of D3 → S.mem.next (S.frames l).c.0 ≢ 0

pub world_step : (s : Sizes) (S : State) (fronts : ℕ → List ℕ) → World s S fronts → (l q : ℕ) → l < s.levels → On q (S.frames l)
    → ((j : ℕ) → l < j → (S.frames j).op ≡ 0) → Moving s S fronts l q
world_step s S fronts w l q low on top =
    record {
      op = k.op;
      point = k.point;
      within = k.within;
      fronts' = put fronts q k.front';
      world = record { sound = sound; on_some = on_some; free_ends = free_ends (row_of s.levels l f) k.within };
      begins = rw (put_same fronts q k.front') k.begins;
      others = λ r ne. put_other fronts q k.front' r ne;
      linked = k.linked;
    }
  where
    f : Frame
    f = S.frames l

    here : (1 ≤ q) × (q ≤ s.queues)
    here = rw on.1 at (w.on_some l on.0)

    k : Stepping s q S l (fronts q)
    k = sound_step s q S (fronts q) (w.sound q here.0 here.1) l low on top

    T : State
    T = stepped s.levels l S

    sound : (r : ℕ) → 1 ≤ r → r ≤ s.queues → Sound s r T (put fronts q k.front' r)
    sound r a b = by (eqb r q) (same? r q)
      where
        by : (t : Bool) → Same r q t → Sound s r T (put fronts q k.front' r)
        by true (same e) = rw (e, put_same fronts q k.front') k.sound
        by false (apart e) =
            rw (put_other fronts q k.front' r e)
            (sound_apart s r S T
            (apart_step s r q S a e (w.sound r a b).registered s.levels l on k.within)
            (fronts r) (w.sound r a b))

    on_some : (j : ℕ) → (T.frames j).op ≢ 0 → (1 ≤ (T.frames j).queue.0) × ((T.frames j).queue.0 ≤ s.queues)
    on_some j run = by (eqb j l) (same? j l)
      where
        g : Frame
        g = next_frame S.mem s.levels l f

        moved : (g.op ≡ 0) ⊎ ((g.op ≡ f.op) × (g.queue ≡ f.queue)) → g.op ≢ 0 → (1 ≤ g.queue.0) × (g.queue.0 ≤ s.queues)
        moved (inl e) r = absurd (r e)
        moved (inr e) r = rw (ap (λ (u : Queue). u.0) e.1) (w.on_some l on.0)

        by : (t : Bool) → Same j l t → (1 ≤ (put S.frames l g j).queue.0) × ((put S.frames l g j).queue.0 ≤ s.queues)
        by true (same e) =
            rw (e, put_same S.frames l g) (moved (next_frame_holds S.mem s.levels l f) (rw (e, put_same S.frames l g) at run))
        by false (apart e) = rw (put_other S.frames l g j e) (w.on_some j (rw (put_other S.frames l g j e) at run))

    free_ends : (x : Row) → Within s q S x → (n : ℕ) → s.queues < n → (mem_after S.mem x).uses n ≡ 0 → (mem_after S.mem x).next n ≡ 0
    free_ends x (load b) n h u = w.free_ends n h u
    free_ends x (store {w = LevelNode j} b m) n h u = w.free_ends n h u
    free_ends x (store {w = LevelQueue j} b m) n h u = w.free_ends n h u
    free_ends x (store {w = Head j} b m) n h u = w.free_ends n h u
    free_ends x (store {w = Tail j} b m) n h u = w.free_ends n h u
    free_ends x (store {w = Next j} {v = v} b m) n h u =
        put_other S.mem.next j.0 v n (λ e. omega (arith, own_use s.queues S.mem.uses q n h (rw e m), here, u)) ∙ w.free_ends n h u
    free_ends x (store {w = Use j} b m) n h u = absurd m
    free_ends x (free {n = j} low high o) n h u = by (eqb n j.0) (same? n j.0)
      where
        by : (t : Bool) → Same n j.0 t → put S.mem.next j.0 0 n ≡ 0
        by true (same e) = rw (e, put_same S.mem.next j.0 0)
        by false (apart e) =
            put_other S.mem.next j.0 0 n e ∙ w.free_ends n h (sym (put_other S.mem.uses j.0 0 n e) ∙ u)

-- a begin on queue q at level l
module _ (s : Sizes) (S : State) (fronts : ℕ → List ℕ) (w : World s S fronts) (l q : ℕ) (low : l < s.levels) (idle : IdleFrom l S)
    (some : 1 ≤ q) (known : q ≤ s.queues) where
  nobody : (r : ℕ) → ¬ On r (S.frames l)
  nobody r h = h.0 (idle l (omega arith))

  -- for all queues, where it holds for q, and nothing of another queue moved
  begun_sound : (T : State) → Sound s q T (fronts q) → ((r : ℕ) → 1 ≤ r → r ≢ q → ((j : ℕ) → S.mem.lq j ≡ r → On r (S.frames j)) → Apart s r S T)
      → (r : ℕ) → 1 ≤ r → r ≤ s.queues → Sound s r T (fronts r)
  begun_sound T here there r a b = by (eqb r q) (same? r q)
    where
      by : (t : Bool) → Same r q t → Sound s r T (fronts r)
      by true (same e) = rw e here
      by false (apart e) =
          sound_apart s r S T (there r a e (w.sound r a b).registered) (fronts r) (w.sound r a b)

  begun_on : (f : Frame) → f.queue.0 ≡ q → (j : ℕ) → (put S.frames l f j).op ≢ 0
      → (1 ≤ (put S.frames l f j).queue.0) × ((put S.frames l f j).queue.0 ≤ s.queues)
  begun_on f e j run = by (eqb j l) (same? j l)
    where
      by : (t : Bool) → Same j l t → (1 ≤ (put S.frames l f j).queue.0) × ((put S.frames l f j).queue.0 ≤ s.queues)
      by true (same z) = rw (z, put_same S.frames l f, e) (some, known)
      by false (apart z) = rw (put_other S.frames l f j z) (w.on_some j (rw (put_other S.frames l f j z) at run))

  pub world_enqueue : (n : ℕ) → s.queues < n → n ≤ s.nodes → S.mem.uses n ≡ 0 → World s (enqueue_begun S l q n) fronts
  world_enqueue n user real unused =
      record {
        sound =
            begun_sound (enqueue_begun S l q n)
            (sound_enqueue s q S (fronts q) (w.sound q some known) l n low idle user real unused (w.free_ends n user unused))
            (λ r a e reg. apart_enqueue s r q S a e reg l n (begun 1 E1 (queue q) (node n)) (nobody r) (omega arith, refl) unused);
        on_some = begun_on (begun 1 E1 (queue q) (node n)) refl;
        free_ends =
            λ m h u. w.free_ends m h
            (sym (put_other S.mem.uses n q m (λ e. omega (arith, sym (put_same S.mem.uses n q) ∙ sym (ap (put S.mem.uses n q) e) ∙ u))) ∙ u);
      }

  pub world_dequeue : ((j : ℕ) → (S.frames j).op ≡ 2 → (S.frames j).queue.0 ≢ q) → World s (dequeue_begun S l q) fronts
  world_dequeue only =
      record {
        sound =
            begun_sound (dequeue_begun S l q) (sound_dequeue s q S (fronts q) (w.sound q some known) l low idle only)
            (λ r a e reg. apart_dequeue s r q S a e reg l (begun 2 D1 (queue q) (node 0)) (nobody r) (omega arith, refl));
        on_some = begun_on (begun 2 D1 (queue q) (node 0)) refl;
        free_ends = w.free_ends;
      }
