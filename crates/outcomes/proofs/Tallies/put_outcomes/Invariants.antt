use Rattle.std.proofs.Common.{◌-◌}
use Rattle.outcomes.specs.Lines.{outcome_lines}
use Rattle.outcomes.specs.LinesLaws.{Writing}
use Rattle.outcomes.proofs.Tallies.put_outcomes.Given as goal

abbrev pub invariant-loop-i : goal.invariant-loop-i
invariant-loop-i l = Writing l.initial.sheet l.sheet (outcome_lines l.n l.self.words.now 0 l.queues) (outcome_lines (l.n - l.i) l.self.words.now l.i l.queues)
