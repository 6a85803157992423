use Rattle.loglines.specs.Laws.{writes_none, writes_more}
use Rattle.loglines.proofs.Sheet.put.Goals as goal

pub loop-b-init : goal.loop-b-init
loop-b-init c = writes_none _

pub loop-b-preserved : goal.loop-b-preserved
loop-b-preserved c = writes_more _ _ c.loop-b-test.true c.loop-b.invariant c.put_byte.ensures
