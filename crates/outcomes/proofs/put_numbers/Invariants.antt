use Rattle.std.proofs.Common.{◌-◌}
use Rattle.outcomes.specs.Lines.{numbers_text}
use Rattle.outcomes.specs.LinesLaws.{Writing}
use Rattle.outcomes.proofs.put_numbers.Given as goal

abbrev pub invariant-loop-j : goal.invariant-loop-j
invariant-loop-j l =
    Writing l.initial.sheet l.sheet (numbers_text 16 l.tallies l.key 0 l.queues 0) (numbers_text (16 - l.j) l.tallies l.key l.j l.queues l.q)
