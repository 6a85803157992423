use Rattle.loglines.specs.Laws.{writes_then}
use Rattle.outcomes.specs.Lines.{outcomes_text, counted_text}
use Rattle.outcomes.proofs.Tallies.put_lines.Goals as goal

pub returns : goal.returns
unfolding outcomes_text counted_text
returns c =
    writes_then _ _ c.put_count.ensures (writes_then _ _ c.put_outcomes.ensures c.put_others.ensures)
