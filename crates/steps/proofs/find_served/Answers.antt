use Rattle.std.proofs.Common.{◌≡◌, ◌∙◌, sym, ap, arith}
use Rattle.words.specs.Laws.{told}
use Rattle.steps.specs.Step.{serving}
use Rattle.steps.proofs.Laws.{serving_hit, serving_miss}
use Rattle.steps.proofs.find_served.Goals as goal

pub returns-then-op_of-ne0 : goal.returns-then-op_of-ne0
returns-then-op_of-ne0 c =
    sym (c.loop-i.invariant ∙ serving_hit _ _ _ _ c.narrow.ensures c.loop-i-test.true (λ z. c.if-op_of-ne0.true (c.op_of.ensures ∙ z)))

pub loop-i-preserved : goal.loop-i-preserved
loop-i-preserved c =
    let idle = told c.op_of.ensures c.if-op_of-ne0.false in
    let missed = serving_miss _ _ _ _ c.narrow.ensures c.loop-i-test.true idle in
    c.loop-i.invariant ∙ missed ∙ ap (serving c.args.s c.args.t.now) c.narrow.ensures

pub returns : goal.returns
unfolding serving
returns c = let z : c.loop-i.i ≡ 0 = omega arith in sym (c.loop-i.invariant ∙ ap (serving c.args.s c.args.t.now) z)
