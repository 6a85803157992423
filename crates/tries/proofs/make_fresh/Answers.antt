use Rattle.tries.specs.Answers.{made_fresh}
use Rattle.tries.proofs.make_fresh.Goals as goal

pub returns : goal.returns
returns c = made_fresh _ _ _ _ c.requires.0 c.requires.1 c.fresh_table.ensures
