use Rattle.loglines.specs.Laws.{writes_then}
use Rattle.outcomes.specs.Lines.{count_line}
use Rattle.outcomes.proofs.put_count.Goals as goal

pub returns : goal.returns
unfolding count_line
returns c = writes_then _ _ c.put.ensures (writes_then _ _ c.put_decimal.ensures c.put-2.ensures)
