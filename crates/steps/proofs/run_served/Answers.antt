use Rattle.std.proofs.Common.{false, arith}
use Rattle.words.specs.Laws.{told}
use Rattle.steps.proofs.Levels.{levels_none, levels_idle}
use Rattle.steps.proofs.run_served.Goals as goal

pub returns-then-budget-eq0 : goal.returns-then-budget-eq0
returns-then-budget-eq0 c = levels_none c.args.s false _ _ _ (omega arith)

pub returns-in-None : goal.returns-in-None
returns-in-None c = levels_idle _ false _ _ _ (omega arith) (told c.find_served.ensures c.in-None.is)
