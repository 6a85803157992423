use Rattle.std.proofs.Common.{◌∙◌}
use Rattle.outcomes.specs.OutcomesLaws.{queues_more, queues_none}
use Rattle.outcomes.proofs.Notes.put_queues.Goals as goal

pub loop-i-preserved : goal.loop-i-preserved
loop-i-preserved c = c.loop-i.invariant ∙ queues_more _ _ c.loop-i.i c.args.queues c.loop-i-test.true c.put_queue.ensures

pub returns : goal.returns
returns c = c.loop-i.invariant ∙ queues_none _ _ c.loop-i.i c.args.queues c.loop-i-test.false
