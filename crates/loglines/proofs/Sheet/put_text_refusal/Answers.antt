use Rattle.loglines.specs.Lines.{text_line}
use Rattle.loglines.specs.Laws.{writes_then}
use Rattle.loglines.proofs.Sheet.put_text_refusal.Goals as goal

pub returns : goal.returns
unfolding text_line
returns c = writes_then _ _ c.put.ensures c.put_field.ensures
