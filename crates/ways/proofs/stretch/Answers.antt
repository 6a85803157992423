use Rattle.ways.specs.Stretches.{stretch_on, stretch_off, shut}
use Rattle.steps.proofs.Singly.{ran_kept}
use mathlib.Core.Path.{◌∙◌}
use native.Mathlib.Omega.{arith}
use borrow.Author.Rules.{rules}
use Rattle.ways.proofs.stretch.Goals as goal

pub overflow_sub-rest : goal.overflow_sub-rest
overflow_sub-rest c =
    let inv = c.loop-rest.invariant in
    let on = stretch_on c.args.o _ _ _ _ _ _ inv.2 c.may_begin.ensures c.if-may_begin.false c.run_sized-ran.ensures _ c.in-Ended.is in
    on.2

pub loop-rest-smaller : goal.loop-rest-smaller
loop-rest-smaller c =
    let inv = c.loop-rest.invariant in
    let on = stretch_on c.args.o _ _ _ _ _ _ inv.2 c.may_begin.ensures c.if-may_begin.false c.run_sized-ran.ensures _ c.in-Ended.is in
    omega (arith, on.1, on.2)

pub loop-rest-preserved : goal.loop-rest-preserved
loop-rest-preserved c =
    let inv = c.loop-rest.invariant in
    let on = stretch_on c.args.o _ _ _ _ _ _ inv.2 c.may_begin.ensures c.if-may_begin.false c.run_sized-ran.ensures _ c.in-Ended.is in
    (omega (arith, inv.0), search rules, ran_kept _ _ _ _ _ _ inv.2 c.run_sized-ran.ensures, inv.3 ∙ on.0)

pub returns-in_default : goal.returns-in_default
returns-in_default c =
    let inv = c.loop-rest.invariant in
    let off = stretch_off c.args.o _ _ _ _ _ _ inv.2 c.may_begin.ensures c.if-may_begin.false c.run_sized-ran.ensures c.in_default.not-Ended in
    record { t_value = inv.3 ∙ off; fact = shut _ _ _ _ (ran_kept _ _ _ _ _ _ inv.2 c.run_sized-ran.ensures) }
