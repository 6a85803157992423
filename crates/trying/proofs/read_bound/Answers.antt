-- Each digit is one step more of the number.
use Rattle.std.proofs.Common.{sym, ◌∙◌, eqb-true}
use Rattle.std.proofs.lemmas.Bool.{eqb-false}
use Rattle.trying.specs.Laws.{bound_none, bound_some, number_more, number_all}
use Rattle.trying.proofs.read_bound.Goals as goal

pub returns-then-is_empty : goal.returns-then-is_empty
returns-then-is_empty c = sym (bound_none _ (eqb-true _ 0 (sym c.if-is_empty.ensures)))

pub loop-b-init : goal.loop-b-init
loop-b-init c = bound_some _ (eqb-false _ 0 (sym c.if-is_empty.ensures))

pub returns-in_err-n : goal.returns-in_err-n
returns-in_err-n c =
    c.from_residual.ensures
    ∙ sym (c.loop-b.invariant ∙ number_more c.loop-b.n c.loop-b.b-index _ _ c.loop-b-test.true c.in_err-n.ensures)

pub loop-b-preserved : goal.loop-b-preserved
loop-b-preserved c = c.loop-b.invariant ∙ number_more c.loop-b.n c.loop-b.b-index _ _ c.loop-b-test.true c.in_ok-n.ensures

pub returns : goal.returns
returns c = sym (c.loop-b.invariant ∙ number_all c.loop-b.n c.loop-b.b-index _ c.loop-b-test.false)
