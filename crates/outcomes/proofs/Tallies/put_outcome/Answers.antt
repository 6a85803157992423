use Rattle.loglines.specs.Laws.{writes_then}
use Rattle.outcomes.specs.Lines.{outcome_line}
use Rattle.outcomes.proofs.Tallies.put_outcome.Goals as goal

pub returns : goal.returns
unfolding outcome_line
returns c =
    writes_then _ _ c.put_decimal.ensures
    (writes_then _ _ c.put.ensures (writes_then _ _ c.put_numbers.ensures c.put-2.ensures))
