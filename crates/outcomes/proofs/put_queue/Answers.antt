use Rattle.loglines.specs.Laws.{writes_then}
use Rattle.outcomes.specs.Lines.{queue_head}
use Rattle.outcomes.proofs.put_queue.Goals as goal

pub returns : goal.returns
unfolding queue_head
returns c = writes_then _ _ c.put.ensures (rw c.from.ensures at c.put_decimal.ensures)
