use Rattle.decimals.specs.Decimals.{field_of}
use Rattle.loglines.specs.Laws.{writes_then}
use Rattle.loglines.proofs.Sheet.put_field.Goals as goal

pub returns : goal.returns
unfolding field_of
returns c = writes_then _ _ c.put_number.ensures c.put_byte.ensures
