use Rattle.ways.specs.Runs.{end_idle, end_none}
use Rattle.ways.proofs.steps_left.Goals as goal

pub returns-in-Idle : goal.returns-in-Idle
returns-in-Idle c = end_idle _ _ _ _ _ c.requires c.run_out-ran.ensures c.in-Idle.is

pub returns-in_default : goal.returns-in_default
returns-in_default c = end_none _ _ _ _ _ c.requires c.run_out-ran.ensures c.in_default.not-Idle
