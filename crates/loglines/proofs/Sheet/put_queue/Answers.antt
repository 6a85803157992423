use Rattle.loglines.specs.Lines.{queue_line}
use Rattle.loglines.specs.Laws.{writes_then}
use Rattle.loglines.proofs.Sheet.put_queue.Goals as goal

pub returns : goal.returns
unfolding queue_line
returns c = writes_then _ _ c.put.ensures (writes_then _ _ (rw c.from.ensures at c.put_number.ensures) (writes_then _ _ c.put_nodes.ensures c.put_byte.ensures))
