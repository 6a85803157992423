use native.Mathlib.Omega.{arith}
use mathlib.Core.Path.{sym}
use Rattle.tries.specs.Listed.{refused_so, count_low, written_so}
use Rattle.tries.proofs.list_texts.Goals as goal

pub returns-then-is_short : goal.returns-then-is_short
returns-then-is_short c = rw c.is_short.ensures.1 (refused_so c.args.request.asked _ _ (cc))

pub overflow_cast-result : goal.overflow_cast-result
overflow_cast-result c =
    let listed = c.list_all-listed.ensures in
    omega (arith, count_low c.args.request.asked _ _ _ _ _ _ (sym c.if-is_short.ensures.0) (rw c.is_short.ensures.1 at listed) c.requires)

pub returns : goal.returns
returns c =
    let listed = c.list_all-listed.ensures in
    let said = written_so c.args.request.asked _ _ _ _ _ _ (sym c.if-is_short.ensures.0) (rw c.is_short.ensures.1 at listed) in
    cc
