use Rattle.std.proofs.Common.{eq-eqb, ne_eqb}
use Rattle.loglines.specs.Laws.{writes_none, writes_then}
use Rattle.outcomes.specs.Lines.{others_line}
use Rattle.outcomes.proofs.put_others.Goals as goal

pub returns-then-n-ne0 : goal.returns-then-n-ne0
unfolding others_line
returns-then-n-ne0 c = rw (ne_eqb _ 0 c.if-n-ne0.true) (writes_then _ _ c.put_decimal.ensures c.put.ensures)

pub returns-else-n-ne0 : goal.returns-else-n-ne0
unfolding others_line
returns-else-n-ne0 c = rw (eq-eqb _ 0 c.if-n-ne0.false) (writes_none _)
