-- A schedule is a history: its moves are accepted calls from a fresh table, and at their end nothing runs.
use Prim.Native.Nat.{ℕ, suc, ◌≤◌}
use mathlib.Core.Path.{◌≡◌, refl}
use mathlib.Core.Bool.{Bool, true, false, cond, ◌&&◌, false≢true}
use mathlib.Core.List.{List, [], ◌∷◌}
use native.Mathlib.Omega.{arith}
use lib.Dec.{eqb}
use lib.ListN.{length, replicate, length-replicate}
use borrow.Author.Tests.{le-ltb}
use Rattle.words.specs.declared.Queue.{Queue}
use Rattle.words.specs.declared.Sizes.{Sizes}
use Rattle.words.specs.Layout.{limits, words}
use Rattle.words.specs.Laws.{and_true}
use Rattle.answers.specs.Said.{Said, refused, says, Step, going_on, ended}
use Rattle.begins.specs.Begin.{enqueue_of, dequeue_of}
use Rattle.steps.specs.Step.{step_of}
use Rattle.fresh.specs.Fresh.{fresh_of}
use Rattle.demand.specs.History as history
use Rattle.demand.specs.History.{Event, enqueued, dequeued, Accepted, History, call}
use Rattle.demand.specs.Demand.{Reached, QuietAt}
use Rattle.demand.proofs.Fresh.{Freshly, freshly}
use Rattle.demand.proofs.Steps.{Outcome, idle as at_rest, took, step_taken}
use Rattle.demand.proofs.Kept.{step_of_holds}
use Rattle.demand.proofs.Moments.{quiet_then}
use Rattle.demand.proofs.Theorems.{Here, reached}
use Rattle.limits.specs.Course.{moves, begun as begun_in}
use Rattle.ways.specs.declared.Op.{Op}
use Rattle.ways.specs.Schedules.{accepts, Tried, tried, stepped, begun, idle, Move, step, begin, is_schedule, fresh}
use Rattle.every.specs.Calls as calls
use Rattle.every.specs.Calls.{call_of, Calls}
use Rattle.every.specs.Every.{IsQueue}

-- ---- an accepted call

says_is : {A : Type 0} (x : Said A × List ℕ) → accepts x.0 ≡ true → (y : A) × (x ≡ (says y, x.1))
says_is (says y, u) h = (y, refl)
says_is (refused r, u) h = absurd (false≢true h)

step_accepted : (t : List ℕ) → (stepped t).0 ≡ true → (x : Step) × Accepted t (stepped t).1 (history.stepped x)
unfolding stepped
step_accepted t h = let y = says_is (step_of t) h in (y.0, history.step y.1)

begin_accepted : (o : Op) (t : List ℕ) → (begun o t).0 ≡ true → Accepted t (begun o t).1 (call_of o)
unfolding begun
begin_accepted o t = by (eqb o.op 1) (eqb o.op 2 && eqb o.node.0 0)
  where
    by : (a b : Bool)
        → (cond {A = Tried} a (tried (enqueue_of t o.level o.queue o.node))
        (cond b (tried (dequeue_of t o.level o.queue)) (false, t))).0 ≡ true
        → Accepted t
        (cond {A = Tried} a (tried (enqueue_of t o.level o.queue o.node))
        (cond b (tried (dequeue_of t o.level o.queue)) (false, t))).1
        (cond a (enqueued o.level o.queue o.node) (dequeued o.level o.queue))
    by true b h = history.enqueue (says_is (enqueue_of t o.level o.queue o.node) h).1
    by false true h = history.dequeue (says_is (dequeue_of t o.level o.queue) h).1
    by false false h = absurd (false≢true h)

-- ---- a schedule is a history

pub record Played (t : List ℕ) (ms : List Move) (ops : List Op) : Type 0 where
  pub events : List Event
  pub end : List ℕ
  pub calls : Calls ms ops events
  pub history : History t events end
  pub over : idle end ≡ true

pub played : (ms : List Move) (t : List ℕ) (ops : List Op) → is_schedule ms t ops ≡ true → Played t ms ops
unfolding is_schedule
played [] t [] h = record { events = []; end = t; calls = calls.none; history = history.none refl; over = h }
played [] t (o ∷ os) h = absurd (false≢true h)
played (step ∷ ms) t ops h =
    let b = and_true (stepped t).0 (is_schedule ms (stepped t).1 ops) h in
    let a = step_accepted t b.0 in
    let r = played ms (stepped t).1 ops b.1 in
    record {
      events = history.stepped a.0 ∷ r.events;
      end = r.end;
      calls = calls.step r.calls;
      history = call a.1 r.history;
      over = r.over;
    }
played (begin ∷ ms) t [] h = absurd (false≢true h)
played (begin ∷ ms) t (o ∷ os) h =
    let b = and_true (begun o t).0 (is_schedule ms (begun o t).1 os) h in
    let r = played ms (begun o t).1 os b.1 in
    record {
      events = call_of o ∷ r.events;
      end = r.end;
      calls = calls.begin r.calls;
      history = call (begin_accepted o t b.0) r.history;
      over = r.over;
    }

-- the calls are as many as the moves, and the begins as many as the operations
one_move : (o : Op) (es : List Event) → (moves (call_of o ∷ es) ≡ suc (moves es)) × (begun_in (call_of o ∷ es) ≡ suc (begun_in es))
one_move o es = by (eqb o.op 1)
  where
    by : (b : Bool)
        → (moves (cond b (enqueued o.level o.queue o.node) (dequeued o.level o.queue) ∷ es) ≡ suc (moves es))
        × (begun_in (cond b (enqueued o.level o.queue o.node) (dequeued o.level o.queue) ∷ es) ≡ suc (begun_in es))
    by true = omega arith
    by false = omega arith

one_step : (x : Step) (es : List Event)
    → (moves (history.stepped x ∷ es) ≡ suc (moves es)) × (begun_in (history.stepped x ∷ es) ≡ begun_in es)
one_step going_on es = omega arith
one_step (ended e) es = omega arith

pub counted : {ms : List Move} {ops : List Op} {es : List Event} → Calls ms ops es → (moves es ≡ length ms) × (begun_in es ≡ length ops)
counted calls.none = (refl, refl)
counted (calls.step {x = x} {es = es} c) = omega (arith, counted c, one_step x es)
counted (calls.begin {o = o} {es = es} c) = omega (arith, counted c, one_move o es)

-- ---- from a fresh table

module _ (s : Sizes) (lim : limits s ≡ true) where
  fresh_is : fresh_of s (replicate (words s) 0) ≡ (says tt, fresh s)
  unfolding fresh_of
  fresh_is =
      let room : words s ≤ length {A = ℕ} (replicate (words s) 0) = omega (arith, length-replicate {A = ℕ} (words s) 0) in
      rw (lim, le-ltb (length {A = ℕ} (replicate (words s) 0)) (words s) room)

  pub from_fresh : (es : List Event) (t : List ℕ) → History (fresh s) es t → Reached s es t
  from_fresh es t h = (replicate (words s) 0, fresh s, fresh_is, h)

  pub freshly_is : Freshly s (fresh s)
  freshly_is = freshly s (replicate (words s) 0) (fresh s) fresh_is

-- at the end every queue is quiet
pub quiet_end : (s : Sizes) (es : List Event) (t : List ℕ) → Reached s es t → idle t ≡ true → (q : Queue) → IsQueue s q → QuietAt t q
unfolding idle
quiet_end s es t r h q known = by (step_taken s t k.fronts k.sized k.world)
  where
    k : Here s es t
    k = reached s es t r

    by : Outcome s t k.fronts → QuietAt t q
    by (at_rest e i) =
        quiet_then s t q k.sized (record { some_queue = omega arith; queue_known = omega arith; nobody = λ j on. on.0 (i j) })
    by (took l x a) = absurd (false≢true (rw (step_of_holds s t k.sized, a.is) at h))
