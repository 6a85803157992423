use borrow.Author.Rules.{rules}
use Rattle.std.specs.Prelude.{refl}
use Rattle.std.proofs.Common.{length-set}
use Rattle.ways.specs.Copies.{copy_more}
use Rattle.ways.proofs.copy_words.Goals as goal

pub loop-i-init : goal.loop-i-init
loop-i-init c = (search rules, refl)

pub loop-i-preserved : goal.loop-i-preserved
loop-i-preserved c =
    let inv = c.loop-i.invariant in
    (simp length-set inv.0, copy_more _ _ c.loop-i.i (search rules) (search rules) inv.1)
