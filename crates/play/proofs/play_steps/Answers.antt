use Rattle.std.proofs.Common.{refl, ◌∙◌, arith}
use Rattle.std.proofs.lemmas.Result.{err_from_is_err_and}
use Rattle.steps.proofs.Singly.{ended_within}
use Rattle.play.specs.Steps.{ran_played}
use Rattle.play.specs.Laws.{run_ended, run_stopped, steps_none}
use Rattle.play.proofs.play_steps.Goals as goal

pub overflow_sub-left : goal.overflow_sub-left
overflow_sub-left c = omega (arith, ended_within _ _ _ _ _ (rw c.in-Ended.is at c.in_ok-ran.ensures))

pub loop-left-smaller : goal.loop-left-smaller
loop-left-smaller c = omega (arith, ended_within _ _ _ _ _ (rw c.in-Ended.is at c.in_ok-ran.ensures))

pub loop-left-preserved : goal.loop-left-preserved
loop-left-preserved c =
    let so_far = c.loop-left.invariant in
    let line = c.put_end.ensures in
    record {
      same_room = line.same_room ∙ so_far.same_room;
      others = so_far.others
          ∙ run_ended _ _ _ _ _ _ _ _ c.loop-left-test.true (rw c.in-Ended.is at c.in_ok-ran.ensures) line.inked;
    }

pub returns-in-Spent : goal.returns-in-Spent
unfolding ran_played
returns-in-Spent c =
    let so_far = c.loop-left.invariant in
    record {
      same_room = so_far.same_room;
      played = so_far.others ∙ run_stopped _ _ _ _ _ _ _ c.loop-left-test.true (rw c.in-Spent.is at c.in_ok-ran.ensures) refl;
    }

pub returns-in-Idle : goal.returns-in-Idle
unfolding ran_played
returns-in-Idle c =
    let so_far = c.loop-left.invariant in
    record {
      same_room = so_far.same_room;
      played = so_far.others ∙ run_stopped _ _ _ _ _ _ _ c.loop-left-test.true (rw c.in-Idle.is at c.in_ok-ran.ensures) refl;
    }

pub returns-in-Damaged : goal.returns-in-Damaged
unfolding ran_played
returns-in-Damaged c =
    let so_far = c.loop-left.invariant in
    record {
      same_room = so_far.same_room;
      played = so_far.others ∙ run_stopped _ _ _ _ _ _ _ c.loop-left-test.true (rw c.in-Damaged.is at c.in_ok-ran.ensures) refl;
    }

pub returns-in_err-ran : goal.returns-in_err-ran
unfolding ran_played
returns-in_err-ran c =
    let so_far = c.loop-left.invariant in
    let err = err_from_is_err_and c.from_residual.result c.from_residual.ensures.1 in
    rw (err.1, err.2)
    record {
      same_room = so_far.same_room;
      played = so_far.others ∙ run_stopped _ _ _ _ _ _ _ c.loop-left-test.true c.in_err-ran.ensures refl;
    }

pub returns : goal.returns
returns c =
    let so_far = c.loop-left.invariant in
    record {
      same_room = so_far.same_room;
      played = so_far.others ∙ steps_none _ _ _ _ c.loop-left-test.false;
    }
