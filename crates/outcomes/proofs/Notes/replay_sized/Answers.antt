use Rattle.std.proofs.Common.{arith, ◌∙◌}
use Rattle.steps.proofs.Singly.{sized_ended_within, ran_kept, run_is}
use Rattle.outcomes.specs.OutcomesLaws.{steps_ended, steps_halted, steps_none}
use Rattle.outcomes.proofs.Notes.replay_sized.Goals as goal

pub returns-in_default : goal.returns-in_default
returns-in_default c =
    let inv = c.loop-left.invariant in
    let run = run_is _ _ _ inv.measured ∙ c.run_sized-ran.ensures in
    inv.replayed ∙ steps_halted _ c.loop-left.left _ _ _ _ c.loop-left-test.true run c.in_default.not-Ended

pub overflow_sub-left : goal.overflow_sub-left
overflow_sub-left c = omega (arith, sized_ended_within _ _ _ _ _ _ (rw c.in-Ended.is at c.run_sized-ran.ensures))

pub loop-left-smaller : goal.loop-left-smaller
loop-left-smaller c = omega (arith, sized_ended_within _ _ _ _ _ _ (rw c.in-Ended.is at c.run_sized-ran.ensures))

pub loop-left-preserved : goal.loop-left-preserved
loop-left-preserved c =
    let inv = c.loop-left.invariant in
    let run = run_is _ _ _ inv.measured ∙ c.run_sized-ran.ensures in
    record {
      measured = ran_kept _ _ _ _ _ _ inv.measured c.run_sized-ran.ensures;
      replayed = inv.replayed ∙ steps_ended _ c.loop-left.left _ _ _ _ _ c.loop-left-test.true (rw c.in-Ended.is at run) c.put_end.ensures;
    }

pub returns : goal.returns
returns c = c.loop-left.invariant.replayed ∙ steps_none _ c.loop-left.left _ c.loop-left-test.false
