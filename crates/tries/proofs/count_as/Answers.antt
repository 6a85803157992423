use mathlib.Core.Path.{refl}
use borrow.Author.Rules.{rules}
use Rattle.tries.specs.Answers.{number_refused, number_on, tallies_refused, tallies_on}
use Rattle.tries.proofs.count_as.Goals as goal

pub returns-in_err-request-clause-ops_value : goal.returns-in_err-request-clause-ops_value
returns-in_err-request-clause-ops_value c =
    let told = c.in_err-request.ensures in
    let said = number_refused c.args.levels c.args.queues c.args.nodes c.args.ops.now _ told in
    search (rules, said)

pub returns-in_err-request-clause-tallies_value : goal.returns-in_err-request-clause-tallies_value
returns-in_err-request-clause-tallies_value c =
    let told = c.in_err-request.ensures in λ w. tallies_refused _ _ _ _ _ told _

pub returns-clause-ops_value : goal.returns-clause-ops_value
returns-clause-ops_value c =
    let told = c.in_ok-request.ensures in
    let counted = c.count_all.ensures.value in
    number_on _ _ _ _ told.2 _ (rw (told.0, told.1) at counted)

pub returns-clause-tallies_value : goal.returns-clause-tallies_value
returns-clause-tallies_value c =
    let told = c.in_ok-request.ensures in
    let tallied = c.count_all.ensures.tallies_after in
    λ w. tallies_on _ _ _ _ told.2 _ _ ((rw (told.0, told.1) at tallied) w)
