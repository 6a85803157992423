use Rattle.std.proofs.Common.{◌≡◌, ◌+◌, ◌-◌}
use Rattle.outcomes.specs.Notes.{note}
use Rattle.outcomes.specs.Outcomes.{queues_nodes}
use Rattle.outcomes.proofs.Notes.put_queues.Given as goal

abbrev pub invariant-loop-i : goal.invariant-loop-i
invariant-loop-i l = note l.initial.self (queues_nodes l.t 1 l.queues) ≡ note l.self (queues_nodes l.t (l.i + 1) (l.queues - l.i))
