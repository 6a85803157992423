use Rattle.words.specs.Laws.{told}
use Rattle.outcomes.specs.OutcomesLaws.{steps_unfit}
use Rattle.outcomes.proofs.Notes.replay_steps.Goals as goal

pub returns-in_default : goal.returns-in_default
returns-in_default c = steps_unfit _ _ _ (told c.measure.ensures c.in_default.is)
