use Rattle.std.proofs.Common.{refl}
use Rattle.tries.specs.Answers.{why_14, why_2, why_none}
use Rattle.tries.proofs.ask.Goals as goal

pub returns-then-asked-gt6 : goal.returns-then-asked-gt6
returns-then-asked-gt6 c = why_14 _ _ c.if-asked-gt6.true

pub returns-then-not-in_limits : goal.returns-then-not-in_limits
returns-then-not-in_limits c = why_2 _ _ c.if-asked-gt6.false (cc)

pub returns : goal.returns
returns c = (refl, refl, why_none _ _ c.if-asked-gt6.false (cc))
