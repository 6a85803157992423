use Rattle.loglines.specs.Lines.{refusal_line}
use Rattle.loglines.specs.Laws.{writes_then}
use Rattle.loglines.proofs.Sheet.put_refusal.Goals as goal

pub returns : goal.returns
unfolding refusal_line
returns c = writes_then _ _ c.put.ensures (writes_then _ _ (rw c.from.ensures at c.put_field.ensures) ((rw c.from-2.ensures at c.put_field-2.ensures)))
