-- Demand 3, proved: each statement of specs/Demand.antt, from what every history keeps.
use Rattle.std.specs.Prelude.{Some}
use Prim.Native.Nat.{ℕ, ◌+◌, ◌≤◌, ◌<◌}
use mathlib.Core.Path.{◌≡◌, refl, sym, ap, ◌∙◌}
use mathlib.Core.Bool.{Bool, true, false, cond}
use mathlib.Core.List.{List, [], ◌∷◌, ◌++◌, append_assoc}
use native.Mathlib.Omega.{arith}
use lib.Dec.{eqb}
use borrow.Author.Tests.{ne_eqb, lt-ltb}
use Rattle.words.specs.declared.Queue.{Queue}
use Rattle.words.specs.declared.Sizes.{Sizes}
use Rattle.words.specs.declared.Frame.{Frame}
use Rattle.words.specs.declared.Node.{Node}
use Rattle.words.specs.declared.Word.TheVariants.{Head, Use}
use Rattle.words.specs.Layout.{node, measured, has, rd}
use Rattle.words.specs.Laws.{Bound, bound}
use Rattle.table.specs.Points.{D1}
use Rattle.begins.specs.Begin.{begun}
use Rattle.steps.specs.Run.{run_from}
use Rattle.answers.specs.declared.End.{End}
use Rattle.answers.specs.Said.{says, after, an_end}
use Rattle.lists.specs.Count.{Same, same, apart, same?, hit, cnt, counts}
use Rattle.lists.specs.Beginning.{begins_after}
use Rattle.state.specs.Mem.{put_same, put_other}
use Rattle.state.specs.View.{memory, frames, state_of}
use Rattle.state.proofs.Seen.{look_rd, frame_is}
use Rattle.state.specs.Queues.{own}
use Rattle.demand.specs.History.{Event, handed_by, returned_by, all, handed, returned, ended_on, still_in, listed}
use Rattle.demand.specs.Demand.{Reached, first_of, EachOnce, ListingAnswers, BeginningKept, DequeueAlone, AloneOnQueue}
use Rattle.demand.specs.Demand.{UseTells, UseListed, NoRefusal10, D3GoesOn}
use Rattle.demand.proofs.World.{World}
use Rattle.demand.proofs.Keeps.{Keeps}
use Rattle.demand.proofs.Rows.{d3_goes}
use Rattle.demand.proofs.Steps.{serves_at, step_at}
use Rattle.demand.proofs.Kept.{step_of_holds, run_of_holds, history_kept, step_unharmed, run_unharmed}
use Rattle.demand.proofs.Fresh.{Freshly, freshly, fresh_own, fresh_world}
use Rattle.demand.proofs.Moments.{
  Nobody,
  quietly,
  own_sentinel,
  still_front,
  still_once,
  still_first,
  still_none,
  off,
  listing_is,
  listing_unharmed,
}
use Rattle.demand.proofs.Begins.{CanDequeue, can_dequeue, dequeue_kept}
use Rattle.demand.proofs.Alone.{alone}
use Rattle.demand.proofs.Dequeue.{Ending, Next, Going, run_ends, history_goes}
use Rattle.demand.proofs.Among.{Begun}
use Rattle.demand.proofs.Since.{Since, begun_since, history_since, sole_end, no_end}

all_append : (f : Event → List ℕ) (es fs : List Event) → all f (es ++ fs) ≡ all f es ++ all f fs
all_append f [] fs = refl
all_append f (e ∷ es) fs = ap (λ (l : List ℕ). f e ++ l) (all_append f es fs) ∙ sym (append_assoc (f e) (all f es) (all f fs))

-- what holds in every table that a history reaches
pub record Here (s : Sizes) (es : List Event) (t : List ℕ) : Type 0 where
  pub sized : measured t ≡ Some s
  pub fronts : ℕ → List ℕ
  pub world : World s (state_of s t) fronts
  -- a node of queue q, but for its sentinel, was handed to it once more than it was returned
  pub balance : (q : ℕ) → 1 ≤ q → q ≤ s.queues → (n : ℕ)
      → own s.queues (memory s t).uses q n + cnt n (all (returned_by q) es) ≡ hit (eqb n q) + cnt n (all (handed_by q) es)

pub reached : (s : Sizes) (es : List Event) (t : List ℕ) → Reached s es t → Here s es t
reached s es t r =
    record {
      sized = k.sized;
      fronts = k.fronts';
      world = k.world;
      balance = λ q a b n. k.balance q a n ∙ ap (λ (x : ℕ). x + cnt n (all (handed_by q) es)) (fresh_own s r.1 f q a b n);
    }
  where
    f : Freshly s r.1
    f = freshly s r.0 r.1 r.2

    k : Keeps s r.1 (λ q. []) (λ q. all (returned_by q) es) (λ q. all (handed_by q) es) t
    k = history_kept s r.1 t es (λ q. []) f.sized (fresh_world s r.1 f) r.3

module _ (s : Sizes) (es : List Event) (t : List ℕ) (q : Queue) where
  pub each_once : EachOnce s es t q
  each_once r quiet n =
      let h = reached s es t r in
      let nb = quietly s t q h.sized quiet in
      let e = h.balance q.0 nb.some_queue nb.queue_known n in
      let o = still_once s t h.fronts h.sized h.world q nb n in
      let z = own_sentinel s.queues (memory s t).uses q.0 nb.queue_known in
      by (eqb n q.0) (same? n q.0) e o z
    where
      u : ℕ → ℕ
      u = (memory s t).uses

      by : (b : Bool) → Same n q.0 b → own s.queues u q.0 n + cnt n (returned q es) ≡ hit b + cnt n (handed q es)
          → cnt n (still_in s t q) ≡ cond b 0 (own s.queues u q.0 n) → own s.queues u q.0 q.0 ≡ 1
          → cnt n (listed s q es t) ≡ cnt n (handed q es)
      by true (same i) e o z =
          let own_n : own s.queues u q.0 n ≡ 1 = rw i z in simp counts (omega arith)
      by false (apart i) e o z = simp counts (omega arith)

  pub listing_answers : ListingAnswers s es t q
  listing_answers r quiet room h =
      let k = reached s es t r in
      listing_is s t k.fronts k.sized k.world q (quietly s t q k.sized quiet) quiet room h

  pub beginning_kept : BeginningKept s es t q
  beginning_kept fs u r quiet h later =
      let k = reached s es t r in
      let m = history_kept s t u fs k.fronts k.sized k.world h in
      let a = still_front s t k.fronts k.sized k.world q (quietly s t q k.sized quiet) in
      let b = still_front s u m.fronts' m.sized m.world q (quietly s u q m.sized later) in
      rw (a, b, all_append (returned_by q.0) es fs, append_assoc)
      (begins_after (returned q es) (k.fronts q.0) (returned q fs ++ m.fronts' q.0) (m.begins q.0))

  pub dequeue_alone : DequeueAlone s es t q
  dequeue_alone l u v fs r quiet h later calm budget enough = (
    e.0,
    e.1,
    e.2,
    run_of_holds s budget v w.next.sized ∙ e.3,
    e.4.op,
    e.4.level_is,
    e.4.queue_is,
    e.4.node_is,
    λ z. still_none s t k.fronts k.sized k.world q nb (sym e.4.node_is ∙ z),
  )
    where
      k : Here s es t
      k = reached s es t r

      nb : Nobody s t q
      nb = quietly s t q k.sized quiet

      c : CanDequeue s t l q u
      c = can_dequeue s t k.sized l q u h

      g : Frame
      g = begun 2 D1 q (node 0)

      m : Keeps s t k.fronts (λ p. []) (λ p. []) u
      m = dequeue_kept s t k.fronts k.sized k.world l q u h

      next : Next s l.0 c.low (memory s t) g u m.fronts'
      next =
          record {
            sized = m.sized;
            world = m.world;
            mem = c.mem_is;
            frame = rw c.frames_are (put_same (frames s t) l.0 g);
            runs = omega arith;
            top = λ j a. rw (c.frames_are, put_other (frames s t) l.0 g j (omega arith)) (c.idle j (omega arith));
          }

      begins : Going s l.0 c.low 2 q (first_of (still_in s t q)) (22 + l.0) u
      begins =
          let a =
          alone s.levels l.0 q.0 (memory s t) 0 0 0 g nb.some_queue (off s t k.fronts k.sized k.world q nb)
          (still_first s t k.fronts k.sized k.world q nb)
          in
          record {
            steps = a.0;
            M = memory s t;
            f = g;
            fronts = m.fronts';
            few = a.1;
            runs = a.2;
            next = next;
            op = refl;
            queue_is = refl;
          }

      w : Going s l.0 c.low 2 q (first_of (still_in s t q)) (22 + l.0) v
      w = history_goes s l.0 c.low (22 + l.0) u v fs begins later calm

      e : (steps : ℕ) × (e : End) × (z : List ℕ) × (run_from s budget 0 v ≡ (says (after steps (an_end e)), z))
          × Ending l.0 2 q (first_of (still_in s t q)) e
      e = run_ends s l.0 c.low (22 + l.0) v w budget 0 enough

  pub alone_on_queue : AloneOnQueue s es t q
  alone_on_queue l u v fs r quiet h later elsewhere = (λ again. the_end (sole_end B v (ended_on q fs) w again), no_end B v (ended_on q fs) w)
    where
      k : Here s es t
      k = reached s es t r

      nb : Nobody s t q
      nb = quietly s t q k.sized quiet

      B : Begun
      B = record { s = s; t = t; l = l; q = q; fronts = k.fronts; sized = k.sized; world = k.world; nobody = nb }

      w : Since B v (ended_on q fs)
      w = history_since B u v [] fs (begun_since B u h) later elsewhere

      the_end : (e : End) × (ended_on q fs ≡ e ∷ []) × Ending l.0 2 q (first_of (still_in s t q)) e
          → (e : End) × (ended_on q fs ≡ e ∷ [])
          × (e.op ≡ 2) × (e.level ≡ l) × (e.queue ≡ q) × (e.node.0 ≡ first_of (still_in s t q)) × (e.node.0 ≡ 0 → still_in s t q ≡ [])
      the_end (e, sole, z) = (
        e,
        sole,
        z.op,
        z.level_is,
        z.queue_is,
        z.node_is,
        λ y. still_none s t k.fronts k.sized k.world q nb (sym z.node_is ∙ y),
      )

module _ (s : Sizes) (es : List Event) (t : List ℕ) (q : Queue) (n : Node) where
  -- a user's node is a queue's where its use names it
  own_is : (h : has s (Use n) ≡ true) → s.queues < n.0 → own s.queues (memory s t).uses q.0 n.0 ≡ hit (eqb (rd s t (Use n)) q.0)
  unfolding own
  own_is h user = rw (lt-ltb s.queues n.0 user, look_rd s t (Use n) h)

  pub use_tells : UseTells s es t q n
  unfolding Bound
  use_tells r hq hn user =
      let k = reached s es t r in
      let b = bound s (Head q) hq in
      let e = k.balance q.0 b.0 b.1 n.0 in
      let z = ne_eqb n.0 q.0 (λ i. omega arith) in
      omega (arith, rw (own_is hn user, z) at e)

  pub use_listed : UseListed s es t q n
  use_listed r quiet hn user =
      let k = reached s es t r in
      let nb = quietly s t q k.sized quiet in
      let z = ne_eqb n.0 q.0 (λ i. omega (arith, nb.queue_known)) in
      rw (own_is hn user, z) at (still_once s t k.fronts k.sized k.world q nb n.0)

module _ (s : Sizes) (es : List Event) (t : List ℕ) where
  pub no_refusal_10 : NoRefusal10 s es t
  no_refusal_10 r =
      let k = reached s es t r in (
        step_unharmed s t k.fronts k.sized k.world,
        run_unharmed s t k.fronts k.sized k.world,
        listing_unharmed s t k.fronts k.sized k.world,
      )

  pub d3_goes_on : D3GoesOn s es t
  d3_goes_on l r e p =
      let k = reached s es t r in
      let v = serves_at s t s.levels l e in
      let f = frame_is s t l.0 v.0 in
      let a = step_at s t k.fronts k.sized k.world l.0 v.0 v.1 v.2 in
      let z = d3_goes (memory s t) s.levels l.0 (frames s t l.0) (rw f p) (a.moving.linked (rw f p)) in
      let o = rw z at a in
      rw (step_of_holds s t k.sized, o.is)
