use borrow.Author.Rules.{rules}
use mathlib.Core.Path.{refl, ◌∙◌}
use native.Mathlib.Omega.{arith}
use Rattle.steps.proofs.Singly.{sized_within, sized_ended_within, sized_spent}
use Rattle.waiting.specs.Laws.{drains_none, drains_empty, drains_more, drains_spent, drains_idle, drains_damaged}
use Rattle.waiting.specs.Laws.{piece_is, alone_begins, begun_runs, begun_drains, ran_ended, ran_spent}
use Rattle.std.proofs.Common.{inl, inr}
use Rattle.waiting.proofs.drain.Goals as goal

pub put_dequeue-requires : goal.put_dequeue-requires
put_dequeue-requires c = record { fits = c.requires.alone.fits; q_value = alone_begins c.requires.alone c.requires.l_value.0 }

pub loop-left-init : goal.loop-left-init
loop-left-init c = (refl, begun_runs c.requires.alone _ c.requires.l_value.0 c.put_dequeue.ensures, omega arith, refl)

pub run_level-ran-requires : goal.run_level-ran-requires
run_level-ran-requires c =
    let share = piece_is c.loop-left.left c.run_budget.result c.loop-left-test.true c.run_budget.ensures in
    record { fits = c.loop-left.invariant.1.alone.fits; levels_value = (c.loop-left.invariant.1.serves, share.0) }

pub overflow_sub-left : goal.overflow_sub-left
overflow_sub-left c =
    let share = piece_is c.loop-left.left c.run_budget.result c.loop-left-test.true c.run_budget.ensures in
    let within = sized_within _ _ _ _ _ _ c.run_level-ran.ensures in
    omega (arith, within, share, c.from-left.ensures)

pub returns-then-e-eq0 : goal.returns-then-e-eq0
returns-then-e-eq0 c =
    let share = piece_is c.loop-left.left c.run_budget.result c.loop-left-test.true c.run_budget.ensures in
    let ran = rw c.in-Ended.is at c.run_level-ran.ensures in
    begun_drains _ _ _ c.args.steps _ _ c.put_dequeue.ensures
    ∙ c.loop-left.invariant.3
    ∙ drains_empty _ _ _ _ c.loop-left.left c.loop-left.n _ _ share.1 _ _ ran c.if-e-eq0.true

pub put_dequeue-requires-in-Ended : goal.put_dequeue-requires-in-Ended
put_dequeue-requires-in-Ended c =
    let after = ran_ended c.loop-left.invariant.1 _ _ _ _ (rw c.in-Ended.is at c.run_level-ran.ensures) in
    record { fits = after.0.fits; q_value = alone_begins after.0 after.1 }

pub loop-left-smaller-in-Ended : goal.loop-left-smaller-in-Ended
loop-left-smaller-in-Ended c =
    let within = sized_ended_within _ _ _ _ _ _ (rw c.in-Ended.is at c.run_level-ran.ensures) in
    omega (arith, within, c.from-left.ensures)

pub loop-left-preserved-in-Ended : goal.loop-left-preserved-in-Ended
loop-left-preserved-in-Ended c =
    let left = c.loop-left.left in
    let share = piece_is left c.run_budget.result c.loop-left-test.true c.run_budget.ensures in
    let ran = rw c.in-Ended.is at c.run_level-ran.ensures in
    let after = ran_ended c.loop-left.invariant.1 _ _ _ _ ran in
    let within = sized_ended_within _ _ _ _ _ _ ran in
    let begun = c.put_dequeue-in-Ended.ensures in
    let more = drains_more _ _ _ _ left c.loop-left.n _ _ share.1 _ _ _ ran c.if-e-eq0.false begun in (
      search rules,
      begun_runs after.0 _ after.1 begun,
      omega (arith, within, share, c.from-left.ensures, c.loop-left.invariant.2),
      c.loop-left.invariant.3 ∙ rw c.from-left.ensures more,
    )

pub loop-left-smaller : goal.loop-left-smaller
loop-left-smaller c =
    let share = piece_is c.loop-left.left c.run_budget.result c.loop-left-test.true c.run_budget.ensures in
    let all = sized_spent _ _ _ _ _ (rw c.in-Spent.is at c.run_level-ran.ensures) in
    omega (arith, all, share, c.from-left.ensures)

pub loop-left-preserved : goal.loop-left-preserved
loop-left-preserved c =
    let left = c.loop-left.left in
    let share = piece_is left c.run_budget.result c.loop-left-test.true c.run_budget.ensures in
    let ran = rw c.in-Spent.is at c.run_level-ran.ensures in
    let all = sized_spent _ _ _ _ _ ran in
    let more = drains_spent _ _ _ _ left c.loop-left.n _ _ share.1 _ ran in (
      search rules,
      ran_spent c.loop-left.invariant.1 _ _ _ ran,
      omega (arith, all, share, c.from-left.ensures, c.loop-left.invariant.2),
      c.loop-left.invariant.3 ∙ rw c.from-left.ensures more,
    )

pub returns-in-Idle : goal.returns-in-Idle
returns-in-Idle c =
    let left = c.loop-left.left in
    let ran = c.run_level-ran.ensures in
    let share = piece_is left c.run_budget.result c.loop-left-test.true c.run_budget.ensures in
    begun_drains _ _ _ c.args.steps _ _ c.put_dequeue.ensures
    ∙ c.loop-left.invariant.3
    ∙ elim c.in-Idle.is [
      | inl idle ↦ drains_idle _ _ _ _ left c.loop-left.n _ _ share.1 _ (rw idle at ran)
      | inr damaged ↦ drains_damaged _ _ _ _ left c.loop-left.n _ _ share.1 _ (rw damaged at ran)
    ]

pub returns : goal.returns
returns c =
    begun_drains _ _ _ c.args.steps _ _ c.put_dequeue.ensures
    ∙ c.loop-left.invariant.3
    ∙ drains_none _ _ _ c.loop-left.left c.loop-left.n _ c.loop-left-test.false
