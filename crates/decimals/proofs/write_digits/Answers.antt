use Rattle.std.proofs.Common.{refl, sym, ap, ◌∙◌, length, arith, length-set}
use Rattle.decimals.specs.Decimals.{digits_of}
use Rattle.decimals.specs.Laws.{last_first, digits_two}
use Rattle.decimals.proofs.write_digits.Goals as goal

pub bounds-room-place-then-n-lt100-2 : goal.bounds-room-place-then-n-lt100-2
bounds-room-place-then-n-lt100-2 c =
    let two = digits_two c.args.n c.if-n-lt10.false c.if-n-lt100.true in simp length-set (omega (arith, ap length two))

pub loop-left-init : goal.loop-left-init
unfolding digits_of
loop-left-init c = (refl, rw c.width-w.ensures refl)

pub loop-left-preserved : goal.loop-left-preserved
loop-left-preserved c =
    let l = c.loop-left in (
      simp length-set l.invariant.0,
      simp c.digit-in-loop-left.ensures (sym (last_first l.room c.args.place l.left l.m (omega arith))) ∙ l.invariant.1,
    )
