use Rattle.steps.proofs.Holding.{Holding}
use Rattle.steps.proofs.run_level.Given as goal

abbrev pub invariant-loop-n : goal.invariant-loop-n
invariant-loop-n l = Holding l.s l.l l.budget l.initial.t l.first l.n l.t l.f
