use Rattle.steps.proofs.Singly.{step_by_run}
use Rattle.steps.proofs.step_sized.Goals as goal

pub returns : goal.returns
returns c = simp c.step_of_run.ensures (step_by_run _ _ _ _ c.requires c.run_sized.ensures)
