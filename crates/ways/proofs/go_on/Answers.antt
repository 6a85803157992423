use Rattle.ways.specs.Stretches.{gone_table, gone_on_so, gone_ended, gone_refused, shut}
use mathlib.Core.Path.{◌∙◌}
use native.Mathlib.Omega.{arith}
use Rattle.ways.proofs.go_on.Goals as goal

pub stretch-requires : goal.stretch-requires
stretch-requires c = gone_table c.args.o _ _ _ c.requires.0 _ _ c.if-left-eq0.false c.step_sized.ensures

pub returns-in-Ok-None-clause-t_value : goal.returns-in-Ok-None-clause-t_value
returns-in-Ok-None-clause-t_value c =
    let is = rw c.in-Ok-None.field-0-is at c.in-Ok-None.is in
    let went = gone_on_so c.args.o _ _ _ c.requires.0 _ _ c.if-left-eq0.false c.step_sized.ensures c.requires.1 is in
    went.0

pub returns-in-Ok-None-clause-fact : goal.returns-in-Ok-None-clause-fact
returns-in-Ok-None-clause-fact c =
    let is = rw c.in-Ok-None.field-0-is at c.in-Ok-None.is in
    let kept = gone_table c.args.o _ _ _ c.requires.0 _ _ c.if-left-eq0.false c.step_sized.ensures in
    let went = gone_on_so c.args.o _ _ _ c.requires.0 _ _ c.if-left-eq0.false c.step_sized.ensures c.requires.1 is in
    (omega arith, kept, λ h. went.1)

pub returns-in-Ok-Some-clause-t_value : goal.returns-in-Ok-Some-clause-t_value
returns-in-Ok-Some-clause-t_value c =
    let is = rw c.in-Ok-Some.field-0-is at c.in-Ok-Some.is in
    gone_ended _ _ _ _ c.requires.0 _ _ c.if-left-eq0.false c.step_sized.ensures _ is ∙ c.stretch.ensures.t_value

pub returns-in-Err-clause-t_value : goal.returns-in-Err-clause-t_value
returns-in-Err-clause-t_value c = gone_refused _ _ _ _ c.requires.0 _ _ c.if-left-eq0.false c.step_sized.ensures _ c.in-Err.is

pub returns-in-Err-clause-fact : goal.returns-in-Err-clause-fact
returns-in-Err-clause-fact c = shut _ _ _ _ (gone_table c.args.o _ _ _ c.requires.0 _ _ c.if-left-eq0.false c.step_sized.ensures)
