use borrow.Author.Rules.{rules}
use Rattle.std.specs.Prelude.{refl}
use Rattle.std.proofs.Common.{length-set, drop}
use Rattle.std.proofs.Math.Seq.{paste-zero}
use Rattle.words.specs.Copies.{copied}
use Rattle.words.proofs.copy_part.Goals as goal

pub loop-i-init : goal.loop-i-init
loop-i-init c = (refl, paste-zero c.args.to.now c.args.place (drop c.args.at c.args.from.now))

pub loop-i-preserved : goal.loop-i-preserved
loop-i-preserved c =
    let inv = c.loop-i.invariant in
    (simp length-set inv.0, copied _ _ _ _ _ c.loop-i.i (search rules) (search rules) inv.1)
