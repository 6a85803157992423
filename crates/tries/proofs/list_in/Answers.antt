use Rattle.tries.specs.Answers.{fresh_table_holds, list_none, list_some}
use Prim.Native.Nat.{ℕ, ◌-◌}
use mathlib.Core.Path.{◌≡◌, ◌∙◌}
use native.Mathlib.Omega.{arith}
use borrow.Author.Rules.{rules}
use Rattle.tries.proofs.list_in.Goals as goal

pub steps_left-tail-requires : goal.steps_left-tail-requires
steps_left-tail-requires g c = rw (c.sizes-s.ensures, c.make_fresh.ensures) (fresh_table_holds _ c.args.request.fits.0)

pub explore_begin-requires-clause-table_of : goal.explore_begin-requires-clause-table_of
explore_begin-requires-clause-table_of g c = rw c.make_fresh.ensures (fresh_table_holds _ c.args.request.fits.0)

pub returns-then-asked-eq0 : goal.returns-then-asked-eq0
returns-then-asked-eq0 g c =
    list_none _ _ _ _ _ _ _ _ c.if-asked-eq0.true c.make_fresh.ensures c.steps_left-tail.ensures c.emit_tail.ensures.value
    ∙ search rules

pub returns : goal.returns
returns g c =
    let all : ℕ = c.args.request.asked.operations in
    let none_begun : all - 0 ≡ all = omega arith in
    let begun = c.explore_begin.ensures.value in
    list_some _ _ _ _ _ _ (omega arith) c.args.request.fits.0 c.make_fresh.ensures (rw none_begun at begun)
    ∙ search rules
