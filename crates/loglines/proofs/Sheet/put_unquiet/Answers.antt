use Rattle.loglines.specs.Lines.{unquiet_line}
use Rattle.loglines.specs.Laws.{writes_then}
use Rattle.loglines.proofs.Sheet.put_unquiet.Goals as goal

pub returns : goal.returns
unfolding unquiet_line
returns c = writes_then _ _ c.put.ensures ((rw c.from.ensures at c.put_field.ensures))
