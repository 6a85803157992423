-- The lines of a schedule tell its moves.
use Prim.Native.Nat.{ℕ, zero, suc, ◌+◌}
use mathlib.Core.Path.{◌≡◌, refl, sym, ap, ◌∙◌}
use mathlib.Core.Bool.{Bool, true, false, cond}
use mathlib.Core.List.{List, [], ◌∷◌, ◌++◌, append-nil}
use native.Mathlib.Omega.{arith}
use native.Mathlib.Numerals.{add-one}
use lib.Dec.{eqb}
use lib.ListN.{replicate}
use borrow.Author.Tests.{ne_eqb}
use Rattle.text.specs.declared.Event.{Event}
use Rattle.text.specs.declared.Event.TheVariants.{Enqueue, Dequeue}
use Rattle.demand.specs.History as history
use Rattle.ways.specs.declared.Op.{Op}
use Rattle.ways.specs.Schedules.{Move, step, begin}
use Rattle.entries.specs.Texts.{counts, op_event, step_events, first, others, events_of, schedule_events}
use Rattle.every.specs.Calls as calls
use Rattle.every.specs.Calls.{Calls, moves_of}

steps_told : (n : ℕ) (es : List Event) → moves_of (step_events n ++ es) ≡ replicate n step ++ moves_of es
unfolding step_events
steps_told zero es = refl
steps_told (suc n) es = rw (ne_eqb (suc n) 0 (λ e. omega arith))

op_told : (o : Op) (es : List Event) → moves_of (op_event o ∷ es) ≡ begin ∷ moves_of es
unfolding op_event
op_told o es = by (eqb o.op 1)
  where
    by : (b : Bool) → moves_of (cond b (Enqueue o.level o.queue o.node) (Dequeue o.level o.queue) ∷ es) ≡ begin ∷ moves_of es
    by true = refl
    by false = refl

one_more : (n : ℕ) (ms : List Move) → replicate (suc n) step ++ ms ≡ replicate n step ++ (step ∷ ms)
one_more zero ms = refl
one_more (suc n) ms = ap (λ (xs : List Move). step ∷ xs) (one_more n ms)

told : {ms : List Move} {ops : List Op} {es : List history.Event} → Calls ms ops es → (n : ℕ)
    → moves_of (events_of (counts n ms) ops) ≡ replicate n step ++ ms
unfolding events_of counts first others
told calls.none n = ap moves_of (sym (append-nil (step_events n))) ∙ steps_told n []
told (calls.step {ms = ms} c) n = told c (n + 1) ∙ ap (λ (i : ℕ). replicate i step ++ ms) (add-one n) ∙ one_more n ms
told (calls.begin {o = o} {ms = ms} {ops = ops} c) n =
    steps_told n (op_event o ∷ events_of (counts 0 ms) ops)
    ∙ ap (λ (xs : List Move). replicate n step ++ xs)
    (op_told o (events_of (counts 0 ms) ops) ∙ ap (λ (xs : List Move). begin ∷ xs) (told c 0))

pub moves_told : {ms : List Move} {ops : List Op} {es : List history.Event} → Calls ms ops es → moves_of (schedule_events ops ms) ≡ ms
moves_told c = told c 0
