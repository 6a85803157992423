use Rattle.logs.specs.Laws.{writes_queues, writes_queue}
use Rattle.logs.proofs.write_queues.Goals as goal

pub loop-i-init : goal.loop-i-init
loop-i-init c = writes_queues _ _

pub loop-i-preserved : goal.loop-i-preserved
loop-i-preserved c = writes_queue _ _ c.loop-i.invariant c.write_queue.ensures
