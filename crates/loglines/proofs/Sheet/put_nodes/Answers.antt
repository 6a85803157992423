use Rattle.loglines.specs.Lines.{nodes_text}
use Rattle.loglines.specs.Laws.{writes_none, writes_node}
use Rattle.loglines.proofs.Sheet.put_nodes.Goals as goal

pub loop-n-init : goal.loop-n-init
unfolding nodes_text
loop-n-init c = writes_none _

pub loop-n-preserved : goal.loop-n-preserved
loop-n-preserved c =
    writes_node _ _ c.loop-n-test.true c.loop-n.invariant c.put_byte.ensures (rw c.from.ensures at c.put_number.ensures)
