use Rattle.std.proofs.Common.{◌≡◌, map}
use Rattle.outcomes.specs.Notes.{note}
use Rattle.outcomes.proofs.Notes.put_queue.Given as goal

abbrev pub invariant-loop-x : goal.invariant-loop-x
invariant-loop-x l = note l.initial.self (map (λ y. y.now) l.yielded) ≡ l.self
