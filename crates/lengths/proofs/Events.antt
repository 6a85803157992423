-- How long the lines are that events put into the log: no more of them end an operation than began one.
use Prim.Native.Nat.{ℕ, zero, suc, ◌+◌, ◌*◌, ◌≤◌}
use Rattle.std.specs.Prelude.{◌≡◌}
use Rattle.std.proofs.Common.{ap}
use mathlib.Core.List.{List, [], ◌∷◌}
use native.Mathlib.Omega.{arith}
use Rattle.std.proofs.Math.Nat.{mul-le-mul_left}
use Rattle.std.proofs.Math.ListN.{length, length-append}
use Rattle.answers.specs.declared.End.{End}
use Rattle.answers.specs.Said.{refused, says, going_on, ended}
use Rattle.text.specs.declared.Event.{Event}
use Rattle.text.specs.declared.Event.TheVariants.{Enqueue, Dequeue, Steps}
use Rattle.steps.specs.Step.{Out, step_of}
use Rattle.play.specs.Play.{Played, go_on, steps_of, event_of, follow, events_of}
use Rattle.lengths.specs.Running.{running, ends_in}
use Rattle.lengths.proofs.Ends.{step_ends, enqueue_most, dequeue_most}
use Rattle.lengths.specs.Lines.{refusal_most}
use Rattle.lengths.specs.Events.{begun_by, begun_in}

-- these lines, and one more of the most bytes for each operation that runs yet, have at most so many bytes
abbrev AtMost : ℕ → List ℕ → ℕ → List ℕ → Type 0
AtMost most lines bytes t = length lines + most * running t ≤ bytes

module _ (line : End → List ℕ) (most : ℕ) (line_most_holds : (e : End) → length (line e) ≤ most) where
  steps_most : (n : ℕ) (t : List ℕ) → AtMost most (steps_of line n t).0 (most * running t) (steps_of line n t).1.1
  unfolding steps_of go_on ends_in
  steps_most zero t = omega arith
  steps_most (suc n) t = by (step_of t) (ap (λ k. most * k) (step_ends t)) (steps_most n)
    where
      by : (x : Out) → most * (ends_in x.0 + running x.1) ≡ most * running t
          → ((u : List ℕ) → AtMost most (steps_of line n u).0 (most * running u) (steps_of line n u).1.1)
          → AtMost most (go_on line (steps_of line n) x).0 (most * running t) (go_on line (steps_of line n) x).1.1
      by (refused r, u) e ih = omega arith
      by (says going_on, u) e ih = let rest = ih u in omega arith
      by (says (ended d), u) e ih = let rest = ih u in let its = line_most_holds d in simp length-append (omega arith)

  event_most : (e : Event) (t : List ℕ) → AtMost most (event_of line e t).0 (most * (running t + begun_by e)) (event_of line e t).1.1
  unfolding event_of begun_by
  event_most (Enqueue l q n) t = let run = mul-le-mul_left most (enqueue_most t l q n) in omega arith
  event_most (Dequeue l q) t = let run = mul-le-mul_left most (dequeue_most t l q) in omega arith
  event_most (Steps count) t = let its = steps_most count t in omega arith

  pub events_most : (i : ℕ) (es : List Event) (t : List ℕ) → length (events_of line i es t).0 ≤ most * (running t + begun_in es) + 14
  unfolding events_of begun_in follow
  events_most i [] t = omega arith
  events_most i (e ∷ es) t = by (event_of line e t) (event_most e t) (events_most (suc i) es)
    where
      by : (p : Played) → AtMost most p.0 (most * (running t + begun_by e)) p.1.1
          → ((u : List ℕ) → length (events_of line (suc i) es u).0 ≤ most * (running u + begun_in es) + 14)
          → length (follow i (events_of line (suc i) es) p).0 ≤ most * (running t + (begun_by e + begun_in es)) + 14
      by (lines, (says _, u)) h ih = let rest = ih u in simp length-append (omega arith)
      by (lines, (refused r, u)) h ih = let last = refusal_most i r in simp length-append (omega arith)
