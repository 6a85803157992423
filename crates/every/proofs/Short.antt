-- The numbers of a schedule's lines are small, so its text is short and can be written.
use Rattle.std.specs.Prelude.{Some}
use Prim.Native.Nat.{ℕ, ◌+◌, ◌*◌, ◌≤◌, ◌<◌}
use mathlib.Core.Path.{◌≡◌, refl}
use mathlib.Core.Bool.{Bool, true, false, cond}
use mathlib.Core.List.{List, [], ◌∷◌, ◌++◌, append-nil}
use native.Mathlib.Omega.{arith}
use lib.Dec.{ltb, eqb}
use lib.ListN.{length, length-append}
use borrow.Author.Tests.{lt-ltb, eqb-false}
use Rattle.words.specs.declared.Sizes.{Sizes}
use Rattle.words.specs.Layout.{measured}
use Rattle.words.specs.Laws.{Limits, measured_limits}
use Rattle.decimals.specs.Decimals.{width_of, field_of}
use Rattle.decimals.specs.Laws.{length_field}
use Rattle.text.specs.declared.Event.{Event}
use Rattle.text.specs.declared.Event.TheVariants.{Enqueue, Dequeue, Steps}
use Rattle.text.specs.Text.{lf, space, opening_text, event_text, events_text, text_of}
use Rattle.lines.specs.Laws.{enqueue_length, dequeue_length, steps_length, opening_length}
use Rattle.schedule.specs.Meaning.{sound, all_sound, Writable}
use Rattle.state.specs.View.{state_of}
use Rattle.demand.specs.History as history
use Rattle.demand.specs.History.{enqueued, dequeued, Accepted, enqueue, dequeue, History, call}
use Rattle.demand.proofs.World.{World}
use Rattle.demand.proofs.Kept.{accepted_kept}
use Rattle.demand.proofs.Begins.{can_enqueue, can_dequeue}
use Rattle.limits.specs.Limits.{Each}
use Rattle.ways.specs.declared.Op.{Op}
use Rattle.ways.specs.Schedules.{Move, step, begin}
use Rattle.entries.specs.Texts.{counts, op_event, step_events, first, others, events_of, opening, events_text_of}
use Rattle.every.specs.Calls as calls
use Rattle.every.specs.Calls.{call_of, Calls}
use Rattle.every.specs.Every.{text_most}

-- ---- one line

-- so many bytes a field of a number below 10, 100, 10,000
field_one : (n end : ℕ) → n < 10 → length (field_of n end) ≤ 2
unfolding width_of
field_one n end h = rw (length_field n end, lt-ltb n 10 h) (omega arith)

field_two : (n end : ℕ) → n < 100 → length (field_of n end) ≤ 3
unfolding width_of
field_two n end h = rw (length_field n end, lt-ltb n 100 h) (by (ltb n 10))
  where
    by : (a : Bool) → cond a 1 2 + 1 ≤ 3
    by true = omega arith
    by false = omega arith

field_four : (n end : ℕ) → n < 10000 → length (field_of n end) ≤ 5
unfolding width_of
field_four n end h = rw (length_field n end, lt-ltb n 10000 h) (by (ltb n 10) (ltb n 100) (ltb n 1000))
  where
    by : (a b c : Bool) → cond a 1 (cond b 2 (cond c 3 4)) + 1 ≤ 5
    by true b c = omega arith
    by false true c = omega arith
    by false false true = omega arith
    by false false false = omega arith

abbrev pub Bounded : Event → Type 0
Bounded (Enqueue l q n) = (l.0 < 100) × (q.0 < 10) × (n.0 < 10000)
Bounded (Dequeue l q) = (l.0 < 100) × (q.0 < 10)
Bounded (Steps c) = (1 ≤ c) × (c < 10000)

event_sound : (e : Event) → Bounded e → sound e
unfolding sound
event_sound (Enqueue l q n) b = omega arith
event_sound (Dequeue l q) b = omega arith
event_sound (Steps c) b = omega arith

event_short : (e : Event) → Bounded e → length (event_text e) ≤ 12
event_short (Enqueue l q n) b =
    omega (arith, enqueue_length l q n, field_two l.0 space b.0, field_one q.0 space b.1, field_four n.0 lf b.2)
event_short (Dequeue l q) b = omega (arith, dequeue_length l q, field_two l.0 space b.0, field_one q.0 lf b.1)
event_short (Steps c) b = omega (arith, steps_length c, field_four c lf b.1)

-- ---- all lines

all_sound_holds : (es : List Event) → Each Bounded es → all_sound es
unfolding all_sound
all_sound_holds [] b = tt
all_sound_holds (e ∷ es) b = (event_sound e b.0, all_sound_holds es b.1)

all_short : (es : List Event) → Each Bounded es → length (events_text es) ≤ 12 * length es
unfolding events_text
all_short [] b = omega arith
all_short (e ∷ es) b = omega (arith, length-append (event_text e) (events_text es), event_short e b.0, all_short es b.1)

opening_short : (s : Sizes) → Limits s → (es : List Event) → length es ≤ 13 → length (opening_text (opening s es)) ≤ 15
opening_short s lim es few =
    omega (
      arith,
      opening_length (opening s es),
      field_two s.levels lf (omega (arith, lim.levels)),
      field_one s.queues lf (omega (arith, lim.queues)),
      field_four s.nodes lf (omega (arith, lim.nodes)),
      field_two (length es) lf (omega arith),
    )

module _ (s : Sizes) (lim : Limits s) (es : List Event) (few : length es ≤ 13) (b : Each Bounded es) where
  pub text_short : length (events_text_of s es) ≤ text_most
  unfolding text_of
  text_short =
      omega (arith, length-append (opening_text (opening s es)) (events_text es), opening_short s lim es few, all_short es b)

  pub can_write : Writable (opening s es) es
  can_write =
      record {
        levels = omega (arith, lim.levels);
        queues = omega (arith, lim.queues);
        nodes = omega (arith, lim.nodes);
        events = omega arith;
        counted = refl;
        each = all_sound_holds es b;
        short = omega (arith, text_short);
      }

-- ---- the lines of a schedule

abbrev Low : ℕ → Type 0
Low c = c < 10000

pub counts_low : (n : ℕ) (ms : List Move) → n + length ms < 10000 → Each Low (counts n ms)
unfolding counts
counts_low n [] h = (omega arith, tt)
counts_low n (step ∷ ms) h = counts_low (n + 1) ms (omega arith)
counts_low n (begin ∷ ms) h = (omega arith, counts_low 0 ms (omega arith))

first_low : (cs : List ℕ) → Each Low cs → first cs < 10000
unfolding first
first_low [] b = omega arith
first_low (c ∷ cs) b = b.0

others_low : (cs : List ℕ) → Each Low cs → Each Low (others cs)
unfolding others
others_low [] b = tt
others_low (c ∷ cs) b = b.1

steps_bounded : (c : ℕ) (es : List Event) → c < 10000 → Each Bounded es → Each Bounded (step_events c ++ es)
unfolding step_events
steps_bounded c es h b = by (eqb c 0) refl
  where
    by : (z : Bool) → eqb c 0 ≡ z → Each Bounded (cond z [] (Steps c ∷ []) ++ es)
    by true e = b
    by false e = (omega (arith, eqb-false c 0 e), b)

steps_few : (c : ℕ) → length (step_events c) ≤ 1
unfolding step_events
steps_few c = by (eqb c 0)
  where
    by : (b : Bool) → length (cond b [] (Steps c ∷ [])) ≤ 1
    by true = omega arith
    by false = omega arith

abbrev pub OpBounded : Op → Type 0
OpBounded o = Bounded (op_event o)

pub events_bounded : (cs : List ℕ) (ops : List Op) → Each Low cs → Each OpBounded ops → Each Bounded (events_of cs ops)
unfolding events_of
events_bounded cs [] c b = rw append-nil at (steps_bounded (first cs) [] (first_low cs c) tt)
events_bounded cs (o ∷ os) c b =
    steps_bounded (first cs) (op_event o ∷ events_of (others cs) os) (first_low cs c)
    (b.0, events_bounded (others cs) os (others_low cs c) b.1)

pub events_few : (cs : List ℕ) (ops : List Op) → length (events_of cs ops) ≤ 2 * length ops + 1
unfolding events_of
events_few cs [] = steps_few (first cs)
events_few cs (o ∷ os) =
    omega (
      arith,
      length-append (step_events (first cs)) (op_event o ∷ events_of (others cs) os),
      steps_few (first cs),
      events_few (others cs) os,
    )

-- an operation that was accepted is one of the table's
module _ (s : Sizes) where
  op_bounded : (t u : List ℕ) (o : Op) → measured t ≡ Some s → Accepted t u (call_of o) → OpBounded o
  unfolding op_event
  op_bounded t u o m = by (eqb o.op 1)
    where
      lim : Limits s
      lim = measured_limits t s m

      by : (b : Bool) → Accepted t u (cond b (enqueued o.level o.queue o.node) (dequeued o.level o.queue))
          → Bounded (cond b (Enqueue o.level o.queue o.node) (Dequeue o.level o.queue))
      by true (enqueue h) = let c = can_enqueue s t m o.level o.queue o.node u h in omega (arith, lim)
      by false (dequeue h) = let c = can_dequeue s t m o.level o.queue u h in omega (arith, lim)

  pub ops_bounded : {ms : List Move} {ops : List Op} {es : List history.Event} (t u : List ℕ) (fronts : ℕ → List ℕ) → measured t ≡ Some s
      → World s (state_of s t) fronts → Calls ms ops es → History t es u → Each OpBounded ops
  ops_bounded t u fronts m w calls.none h = tt
  ops_bounded t v fronts m w (calls.step {x = x} c) (call {u = u} a h) =
      let k = accepted_kept s t u (history.stepped x) fronts m w a in ops_bounded u v k.fronts' k.sized k.world c h
  ops_bounded t v fronts m w (calls.begin {o = o} c) (call {u = u} a h) =
      let k = accepted_kept s t u (call_of o) fronts m w a in
      (op_bounded t u o m a, ops_bounded u v k.fronts' k.sized k.world c h)
