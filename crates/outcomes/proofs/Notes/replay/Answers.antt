use Rattle.std.proofs.Common.{◌≡◌, ◌∙◌, arith}
use Rattle.outcomes.specs.OutcomesLaws.{replay_more, replay_last}
use Rattle.outcomes.proofs.Notes.replay.Goals as goal

pub loop-i-preserved : goal.loop-i-preserved
loop-i-preserved c =
    c.loop-i.invariant
    ∙ replay_more _ _ _ _ _ c.loop-i.i _ _ _ _ c.loop-i-test.true c.replay_steps.ensures (rw c.op_in.ensures at c.take_begin.ensures)

pub returns : goal.returns
returns c =
    let s = c.args.schedule.now in
    let last : c.loop-i.i ≡ s.k = omega arith in
    let steps = rw (← last) at c.replay_steps-2.ensures in
    c.loop-i.invariant ∙ replay_last _ _ _ _ c.loop-i.i _ c.loop-i-test.false ∙ steps
