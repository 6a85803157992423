use Rattle.outcomes.specs.LinesLaws.{writing_on, writing_ends, lines_more, lines_none}
use Rattle.outcomes.proofs.Tallies.put_outcomes.Goals as goal

pub loop-i-preserved : goal.loop-i-preserved
loop-i-preserved c =
    writing_on c.loop-i.invariant c.put_outcome.ensures.same_room
    (lines_more _ _ _ c.loop-i.i _ c.loop-i-test.true c.put_outcome.ensures.inked)

pub returns : goal.returns
returns c =
    rw (← c.known-n.ensures.0) (writing_ends c.loop-i.invariant (lines_none _ _ _ c.loop-i.i _ c.loop-i-test.false))
