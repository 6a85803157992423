use Rattle.std.specs.Prelude.{◌≡◌}
use Rattle.steps.specs.Step.{serving}
use Rattle.steps.proofs.find_served.Given as goal

abbrev pub invariant-loop-i : goal.invariant-loop-i
invariant-loop-i l = serving l.s l.t l.n ≡ serving l.s l.t l.i
