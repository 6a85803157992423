-- The theorems: over the moves of a history from a fresh table.
use Rattle.std.specs.Prelude.{Some}
use Prim.Native.Nat.{ℕ, ◌+◌, ◌*◌, ◌≤◌, ◌<◌}
use mathlib.Core.Path.{◌≡◌, refl, sym, ap, ◌∙◌, subst}
use mathlib.Core.Logic.{◌≢◌}
use mathlib.Core.List.{List, [], ◌∷◌, ◌++◌}
use native.Mathlib.Omega.{arith}
use native.Mathlib.Nat.{mul-le-mul}
use Rattle.words.specs.declared.Level.{Level}
use Rattle.words.specs.declared.Queue.{Queue}
use Rattle.words.specs.declared.Sizes.{Sizes}
use Rattle.words.specs.declared.Frame.{Frame}
use Rattle.words.specs.Layout.{level, node, frame_of}
use Rattle.words.specs.Laws.{measured_limits}
use Rattle.answers.specs.declared.End.{End}
use Rattle.answers.specs.Said.{says, going_on, ended, Why, after, an_end, spent, nothing_runs, refusal_10}
use Rattle.answers.specs.Most.{enqueue_most, operation_most}
use Rattle.table.specs.Points.{E1, D1}
use Rattle.begins.specs.Begin.{begun as frame_begun}
use Rattle.steps.specs.Step.{serving}
use Rattle.steps.specs.Run.{run_from, run_of}
use Rattle.state.specs.Mem.{put, put_same, put_other}
use Rattle.state.specs.View.{frames, state_of}
use Rattle.state.proofs.Seen.{frame_is, frame_idle}
use Rattle.demand.specs.History.{Event, enqueued, dequeued, stepped, ran, asked, Accepted, enqueue, dequeue, History, of_call}
use Rattle.demand.specs.Demand.{Reached}
use Rattle.demand.proofs.Fresh.{Freshly, freshly, fresh_world}
use Rattle.demand.proofs.Begins.{CanEnqueue, CanDequeue, can_enqueue, can_dequeue}
use Rattle.demand.proofs.Steps.{serving_is, serves_at}
use Rattle.demand.proofs.Kept.{run_of_holds}
use Rattle.limits.specs.Course.{Effect, steps, ends, ran_for, effect, ends_of, moves, begun as begun_in}
use Rattle.limits.specs.Course.{Course, running, over, next, course, own_steps, Ended}
use Rattle.limits.specs.Limits.{Capped, InBounds, Each, Serves}
use Rattle.limits.specs.Limits.{EnqueueBelow, OperationBelow, EndsWithin, LimitsSuffice, EachCounted, Followed}
use Rattle.limits.specs.Limits.{Within, EnqueueWithin, DequeueWithin, EnqueueFrom, DequeueFrom, MovesWithin}
use Rattle.limits.proofs.Move.{Move, begun, goes, stops, rests, above_in, none_above, idle_above}
use Rattle.limits.proofs.Move.{Runs, Where, where_next, left, none_left, falls}
use Rattle.limits.proofs.All.{enqueue_below, operation_below, counts_each}
use Rattle.limits.proofs.Few.{few_table, Bounded, all_nodes, for_begins, few_fresh}
use Rattle.limits.proofs.Calls.{Good, most_below, Moved, Reason, Ran, run_moved, accepted_moved, Moves, done, also, history_moves}

-- ---- along a history

module _ (s : Sizes) (v : ℕ) (cap : Capped s) where
  last_good : (t u : List ℕ) (es : List Event) → Good s v t → Moves s v cap t es u → Good s v u
  last_good t u es k (done h) = subst (Good s v) h k
  last_good t w es k (also {u = u} {es = fs} m rest) = last_good u w fs m.good rest

  -- every end is within the bounds
  pub end_short : (F G : ℕ → Frame) (x : Effect) (n : ℕ) (e : End) → x ≡ ends n e → Move s.levels v F G x → InBounds v e
  end_short F G _ n e z (begun i b) = cc
  end_short F G _ n e z (goes i b g) = cc
  end_short F G _ n e z (stops {e = d} i b gone x short) = let y : d ≡ e = cc in rw (← y) short
  end_short F G _ n e z (rests h) = cc

  each_call : (P : End → Type 0) (x : Event) (es : List End) → ((n : ℕ) (e : End) → effect x ≡ ends n e → P e) → Each P es
      → Each P (of_call (λ e. e ∷ []) x ++ es)
  each_call P (enqueued l q n) es h r = r
  each_call P (dequeued l q) es h r = r
  each_call P (stepped going_on) es h r = r
  each_call P (stepped (ended e)) es h r = (h 1 e refl, r)
  each_call P (ran budget (after n (an_end e))) es h r = (h n e refl, r)
  each_call P (ran budget (after n spent)) es h r = r
  each_call P (ran budget (after n nothing_runs)) es h r = r
  each_call P (ran budget (after n refusal_10)) es h r = r
  each_call P asked es h r = r

  each_short : (t u : List ℕ) (es : List Event) → Moves s v cap t es u → Each (InBounds v) (ends_of es)
  each_short t u es (done h) = tt
  each_short t w es (also {u = u} {e = e} {es = fs} m rest) =
      each_call (InBounds v) e (ends_of fs) (λ n d z. end_short (frames s t) (frames s u) (effect e) n d z m.move)
      (each_short u w fs rest)

  -- one operation
  where_then : (op l : ℕ) (q : Queue) → op ≢ 0 → l < s.levels → (t u : List ℕ) (es : List Event) (c : Course) → Moves s v cap t es u
      → Where s.levels op l q v (frames s t) c → Where s.levels op l q v (frames s u) (course es c)
  where_then op l q some low t u es c (done h) r = subst (λ (w : List ℕ). Where s.levels op l q v (frames s w) c) h r
  where_then op l q some low t w es c (also {u = u} {e = e} {es = fs} m rest) r =
      where_then op l q some low u w fs (next (effect e) c) rest
      (where_next s.levels op l q v some low (frames s t) (frames s u) (effect e) c m.move r)

  -- all moves
  abbrev most : ℕ
  most = s.levels * (v + 6) + 15

  fall : (t u : List ℕ) (es : List Event) → Moves s v cap t es u
      → moves es + left s.levels most (frames s u) ≤ begun_in es * (1 + most) + left s.levels most (frames s t)
  fall t u es (done h) = omega (arith, ap (λ (w : List ℕ). left s.levels most (frames s w)) h)
  fall t w es (also {u = u} {e = e} {es = fs} m rest) =
      omega (
        arith,
        fall u w fs rest,
        falls s.levels most v (frames s t) (frames s u) (effect e) m.move within (λ j low. most_below s v j low),
      )
    where
      k : Good s v u
      k = m.good

      within : (j : ℕ) → j < s.levels → (frames s u j).op ≢ 0 → (frames s u j).steps ≤ most
      within j low runs =
          omega (arith, operation_below s (state_of s u) k.fronts k.world v k.paid j runs, most_below s v j low)

-- ---- from fresh

pub fresh_good : (s : Sizes) (v : ℕ) (t : List ℕ) → Freshly s t → Good s v t
fresh_good s v t f =
    record {
      sized = f.sized;
      fronts = λ q. [];
      world = fresh_world s t f;
      paid = λ q a b j o. absurd (o.0 (f.idle j));
      whole = λ q a b j o. absurd (o.0 (f.idle j));
    }

module _ (s : Sizes) (es : List Event) (t : List ℕ) where
  pub limits_suffice : LimitsSuffice s es t
  limits_suffice (lent, fresh, e, h) =
      let lim = measured_limits fresh s (freshly s lent fresh e).sized in
      let levels : s.levels + 1 ≤ 17 = omega (arith, lim) in
      let nodes : s.nodes + 6 ≤ 1030 = omega (arith, lim) in
      omega (arith, mul-le-mul levels nodes)

  module _ (r : Reached s es t) (cap : Capped s) where
    start : Freshly s r.1
    start = freshly s r.0 r.1 r.2

    from_fresh : Moves s s.nodes cap r.1 es t
    from_fresh = history_moves s s.nodes cap r.1 t es (fresh_good s s.nodes r.1 start) (all_nodes refl) r.3

    pub here : Good s s.nodes t
    here = last_good s s.nodes cap r.1 t es (fresh_good s s.nodes r.1 start) from_fresh

  pub enqueue_is_below : EnqueueBelow s es t
  enqueue_is_below l r cap low op =
      let k = here r cap in
      let f = frame_is s t l.0 low in
      rw (← f) (enqueue_below s (state_of s t) k.fronts k.world s.nodes k.paid l.0 (λ z. omega (arith, rw f at z)) (rw f op))

  pub operation_is_below : OperationBelow s es t
  operation_is_below l r cap low op =
      let k = here r cap in
      let f = frame_is s t l.0 low in
      rw (← f) (operation_below s (state_of s t) k.fronts k.world s.nodes k.paid l.0 (rw f op))

  pub ends_within : EndsWithin s es t
  ends_within r cap = each_short s s.nodes cap r.1 t es (from_fresh r cap)

  pub each_counted : EachCounted s es t
  each_counted l r cap low op =
      let k = here r cap in
      let f = frame_is s t l.0 low in
      rw (← f) (counts_each s (state_of s t) k.fronts k.world s.nodes k.paid l.0 (rw f op)
      (omega (arith, most_below s s.nodes l.0 low)))

  pub moves_within : MovesWithin s es t
  moves_within K r cap few =
      let f = start r cap in
      let fits : Bounded s (K + 1) (begun_in es) r.1 = for_begins 1 (few_fresh s r.1 f) (omega arith) in
      let m = history_moves s (K + 1) cap r.1 t es (fresh_good s (K + 1) r.1 f) fits r.3 in
      omega (arith, fall s (K + 1) cap r.1 t es m, none_left s.levels (s.levels * (K + 1 + 6) + 15) (frames s r.1) f.idle)

-- ---- one operation, followed from its begin

-- it has begun: nothing runs above it
runs_begun : (s : Sizes) (t u : List ℕ) (l : Level) (q : Queue) (g : Frame) → ((j : ℕ) → l.0 ≤ j → (frames s t j).op ≡ 0)
    → frames s u ≡ put (frames s t) l.0 g → g.queue ≡ q → g.steps ≡ 0 → Runs s.levels g.op l.0 q (frames s u) 0 0
runs_begun s t u l q g idle e on none =
    let at_l : frames s u l.0 ≡ g = ap (λ (F : ℕ → Frame). F l.0) e ∙ put_same (frames s t) l.0 g in
    record {
      op_is = ap (λ (f : Frame). f.op) at_l;
      queue_is = ap (λ (f : Frame). f.queue) at_l ∙ on;
      steps_are = ap (λ (f : Frame). f.steps) at_l ∙ none;
      above_are = none_above s.levels l.0 (frames s u) (λ j h. higher j h);
    }
  where
    higher : (j : ℕ) → l.0 < j → (frames s u j).op ≡ 0
    higher j h =
        let same_frame = ap (λ (F : ℕ → Frame). F j) e ∙ put_other (frames s t) l.0 g j (omega arith) in
        ap (λ (f : Frame). f.op) same_frame ∙ idle j (omega arith)

-- a call keeps what holds of a table
pub good_then : (s : Sizes) (cap : Capped s) (t u : List ℕ) (e : Event) → Good s s.nodes t → Accepted t u e → Good s s.nodes u
good_then s cap t u e k a =
    (accepted_moved s s.nodes cap t u e k (few_table s (state_of s t) k.fronts k.world) a).good

-- it runs in table u, so many run above it, and so many steps were its own
record Underway (s : Sizes) (op : ℕ) (l : Level) (q : Queue) (u : List ℕ) (above own : ℕ) : Type 0 where
  pub some : op ≢ 0
  pub low : l.0 < s.levels
  pub good : Good s s.nodes u
  pub runs : Runs s.levels op l.0 q (frames s u) above own

-- and then any calls; with a bound on what runs as it and on what ends as it
module _ (s : Sizes) (cap : Capped s) (op : ℕ) (l : Level) (q : Queue) (u : List ℕ) (above had : ℕ) (b : Underway s op l q u above had)
    (most : ℕ)
    (below : (w : List ℕ) → Good s s.nodes w → (frames s w l.0).op ≡ op → (frames s w l.0).steps < most)
    (short : (e : End) → e.op ≡ op → e.level.0 ≡ l.0 → InBounds s.nodes e → e.steps ≤ most)
    (fs : List Event) (v : List ℕ) (h : History u fs v) where
  later : Moves s s.nodes cap u fs v
  later = history_moves s s.nodes cap u v fs b.good (all_nodes refl) h

  now : Good s s.nodes v
  now = last_good s s.nodes cap u v fs b.good later

  abbrev c : Course
  c = course fs (running above had)

  it_is : Where s.levels op l.0 q s.nodes (frames s v) c
  it_is = where_then s s.nodes cap op l.0 q b.some b.low u v fs (running above had) later b.runs

  serves : (up own : ℕ) → Runs s.levels op l.0 q (frames s v) up own → Serves s v l up
  serves up own r = (mine, none)
    where
      mine : up ≡ 0 → serving s v s.levels ≡ Some l
      mine z =
          let f = frame_is s v l.0 b.low in
          serving_is s v l.0 s.levels b.low (λ e. b.some (sym r.op_is ∙ rw f e))
          (λ j a c. rw (← frame_is s v j c) (idle_above s.levels l.0 (frames s v) (r.above_are ∙ z) j a c))

      none : serving s v s.levels ≡ Some l → up ≡ 0
      none e =
          let at = serves_at s v s.levels l e in
          sym r.above_are ∙ none_above s.levels l.0 (frames s v) (λ j a. frame_idle s v j (λ c. at.2 j a c))

  follows : (c : Course) → Where s.levels op l.0 q s.nodes (frames s v) c → Followed s op l q most v c
  follows (running up own) r =
      let f = frame_is s v l.0 b.low in (
        rw (← f) r.op_is,
        rw (← f) r.queue_is,
        rw (← f) r.steps_are,
        omega (arith, below v now r.op_is, r.steps_are),
        serves up own r,
      )
  follows (over own e) r = (r.0, ap level r.1, r.2, r.3, omega (arith, short e r.0 r.1 r.4, r.3))

  has_ended : (c : Course) → Followed s op l q most v c → most ≤ own_steps c → Ended c
  has_ended (running up own) f enough = absurd (omega (arith, f.3))
  has_ended (over own e) f enough = tt

  -- a run from there
  module _ (own budget : ℕ) (alone : c ≡ running 0 own) (enough : most ≤ own + budget) where
    x : Ran s s.nodes cap budget 0 v
    x = run_moved s s.nodes cap budget 0 v now (few_table s (state_of s v) now.fronts now.world)

    after_run : (y : Effect) → Move s.levels s.nodes (frames s v) (frames s x.table) y
        → Where s.levels op l.0 q s.nodes (frames s x.table) (next y (running 0 own))
    after_run y m =
        where_next s.levels op l.0 q s.nodes b.some b.low (frames s v) (frames s x.table) y (running 0 own) m
        (rw alone at it_is)

    run_ends : (n : ℕ) × (e : End) × (w : List ℕ) × (run_of budget v ≡ (says (after n (an_end e)), w))
        × (e.op ≡ op) × (e.level ≡ l) × (e.queue ≡ q) × (e.steps ≡ own + n)
    run_ends = by x.why x.is x.moved x.reason
      where
        by : (why : Why) → run_from s budget 0 v ≡ (says (after (0 + x.count) why), x.table)
            → Moved s s.nodes cap v x.table (ran_for x.count why) → Reason s s.nodes cap budget x.table x.count why
            → (n : ℕ) × (e : End) × (w : List ℕ) × (run_of budget v ≡ (says (after n (an_end e)), w))
            × (e.op ≡ op) × (e.level ≡ l) × (e.queue ≡ q) × (e.steps ≡ own + n)
        by (an_end e) is m z =
            let at = after_run (ends x.count e) m.move in
            let none : 0 + x.count ≡ x.count = omega arith in
            (x.count, e, x.table, run_of_holds s budget v now.sized ∙ rw none at is, at.0, ap level at.1, at.2, at.3)
        by spent is m z =
            let at = after_run (steps x.count) m.move in
            absurd (omega (arith, below x.table m.good at.op_is, at.steps_are))
        by nothing_runs is m z =
            let at = after_run (steps x.count) m.move in absurd (b.some (sym at.op_is ∙ z l.0))
        by refusal_10 is m z = absurd z

  is_within : Within s op l q most c v
  is_within = let f = follows c it_is in record { followed = f; ends = has_ended c f; runs = run_ends }

-- an enqueue, and a dequeue
module _ (s : Sizes) (cap : Capped s) (l : Level) (q : Queue) (u : List ℕ) (above own : ℕ) (fs : List Event) (v : List ℕ)
    (h : History u fs v) where
  enqueue_in : (most : ℕ) → enqueue_most l.0 s.nodes ≤ most → Underway s 1 l q u above own
      → Within s 1 l q most (course fs (running above own)) v
  enqueue_in most m b =
      is_within s cap 1 l q u above own b most (λ w k o. omega (arith, below w k o))
      (λ e o i short. omega (arith, rw i at (short.enqueue o))) fs v h
    where
      below : (w : List ℕ) → Good s s.nodes w → (frames s w l.0).op ≡ 1 → (frames s w l.0).steps < enqueue_most l.0 s.nodes
      below w k o = enqueue_below s (state_of s w) k.fronts k.world s.nodes k.paid l.0 (λ z. omega arith) o

  dequeue_in : (most : ℕ) → operation_most l.0 s.nodes ≤ most → Underway s 2 l q u above own
      → Within s 2 l q most (course fs (running above own)) v
  dequeue_in most m b =
      is_within s cap 2 l q u above own b most (λ w k o. omega (arith, below w k o))
      (λ e o i short. omega (arith, rw i at short.operation)) fs v h
    where
      below : (w : List ℕ) → Good s s.nodes w → (frames s w l.0).op ≡ 2 → (frames s w l.0).steps < operation_most l.0 s.nodes
      below w k o = operation_below s (state_of s w) k.fronts k.world s.nodes k.paid l.0 (λ z. omega arith)

-- from its begin
module _ (s : Sizes) (es : List Event) (t : List ℕ) (l : Level) (q : Queue) (u : List ℕ) (fs : List Event) (v : List ℕ) where
  pub enqueue_within : EnqueueWithin s es t l q u fs v
  enqueue_within n r cap h later = enqueue_in s cap l q u 0 0 fs v later _ (omega arith) begun
    where
      k : Good s s.nodes t
      k = here s es t r cap

      c : CanEnqueue s t l q n u
      c = can_enqueue s t k.sized l q n u h

      begun : Underway s 1 l q u 0 0
      begun =
          record {
            some = omega arith;
            low = c.low;
            good = good_then s cap t u (enqueued l q n) k (enqueue h);
            runs = runs_begun s t u l q (frame_begun 1 E1 q n) c.idle c.frames_are refl refl;
          }

  pub dequeue_within : DequeueWithin s es t l q u fs v
  dequeue_within r cap h later = dequeue_in s cap l q u 0 0 fs v later _ (omega arith) begun
    where
      k : Good s s.nodes t
      k = here s es t r cap

      c : CanDequeue s t l q u
      c = can_dequeue s t k.sized l q u h

      begun : Underway s 2 l q u 0 0
      begun =
          record {
            some = omega arith;
            low = c.low;
            good = good_then s cap t u (dequeued l q) k (dequeue h);
            runs = runs_begun s t u l q (frame_begun 2 D1 q (node 0)) c.idle c.frames_are refl refl;
          }

-- from any moment at which it runs
module _ (s : Sizes) (es : List Event) (t : List ℕ) (l : Level) where
  abbrev above : ℕ
  above = above_in s.levels l.0 (frames s t)

  underway : (op : ℕ) → op ≢ 0 → Reached s es t → Capped s → l.0 < s.levels → (frame_of s t l).op ≡ op
      → Underway s op l (frame_of s t l).queue t above (frame_of s t l).steps
  underway op some r cap low e =
      let f = frame_is s t l.0 low in
      record {
        some = some;
        low = low;
        good = here s es t r cap;
        runs = record { op_is = rw f e; queue_is = rw f; steps_are = rw f; above_are = refl };
      }

  pub enqueue_from : EnqueueFrom s es t l
  enqueue_from r cap low e = (
    above,
    λ fs v h. enqueue_in s cap l (frame_of s t l).queue t above (frame_of s t l).steps fs v h _ (omega arith)
        (underway 1 (omega arith) r cap low e),
  )

  pub dequeue_from : DequeueFrom s es t l
  dequeue_from r cap low e = (
    above,
    λ fs v h. dequeue_in s cap l (frame_of s t l).queue t above (frame_of s t l).steps fs v h _ (omega arith)
        (underway 2 (omega arith) r cap low e),
  )
