use Rattle.std.proofs.Common.{eq-eqb, ne_eqb}
use Rattle.loglines.specs.Laws.{writes_then}
use Rattle.outcomes.specs.Lines.{value_text}
use Rattle.outcomes.proofs.put_value.Goals as goal

pub returns-then-x-eq0 : goal.returns-then-x-eq0
unfolding value_text
returns-then-x-eq0 c = rw (eq-eqb _ 0 c.if-x-eq0.true) c.put.ensures

pub returns-else-x-eq0 : goal.returns-else-x-eq0
unfolding value_text
returns-else-x-eq0 c =
    rw (ne_eqb _ 0 c.if-x-eq0.false) (writes_then _ _ c.put-else-x-eq0.ensures (rw c.from.ensures at c.put_decimal.ensures))
