use Rattle.std.proofs.Common.{◌≡◌, arith}
use Rattle.words.specs.Laws.{told}
use Rattle.steps.proofs.Holding.{holding_start, holding_none, holding_on, holding_ended, holding_stray, holding_spent}
use Rattle.steps.proofs.run_level.Goals as goal

pub returns-then-not-is_sound : goal.returns-then-not-is_sound
returns-then-not-is_sound c =
    let pre = c.requires.levels_value in
    holding_none _ _ _ _ _ c.read_frame-f.ensures pre.0 (told c.is_sound.ensures c.if-not-is_sound.true) c.requires.fits.room pre.1

pub loop-n-init : goal.loop-n-init
loop-n-init c =
    holding_start _ _ _ _ _ c.read_frame-f.ensures c.requires.levels_value.0 (told c.is_sound.ensures c.if-not-is_sound.false)

pub loop-n-preserved : goal.loop-n-preserved
loop-n-preserved c =
    let turned = simp (c.narrow.ensures, c.in-Some-Go.field-0-is) at c.in-Some-Go.ensures in
    holding_on c.loop-n.invariant (omega arith) c.loop-n-test.true _ _ (omega arith) turned

pub returns-in-Some-Done : goal.returns-in-Some-Done
returns-in-Some-Done c =
    let turned = simp (c.narrow.ensures, c.in-Some-Done.field-0-is) at c.in-Some-Done.ensures in
    simp (c.write_frame.ensures, c.no_frame.ensures, c.end_of.ensures, c.with_steps-last.ensures)
    (holding_ended c.loop-n.invariant (omega arith) c.loop-n-test.true _ _ turned)

pub returns-in-None : goal.returns-in-None
returns-in-None c =
    simp (c.write_frame-in-None.ensures, c.with_steps.ensures)
    (holding_stray c.loop-n.invariant (omega arith) c.loop-n-test.true _ (simp c.narrow.ensures at c.in-None.ensures))

pub returns : goal.returns
returns c =
    let all : c.args.budget ≡ c.loop-n.n = omega arith in
    simp (c.write_frame-2.ensures, c.with_steps-2.ensures) (holding_spent c.loop-n.invariant all)
