use native.Mathlib.Omega.{arith}
use borrow.Author.Rules.{rules}
use Rattle.tries.specs.Answers.{try_refused, try_on}
use Rattle.tries.proofs.try_schedules.Goals as goal

pub returns-in_err-request : goal.returns-in_err-request
returns-in_err-request c =
    let told = c.in_err-request.ensures in
    let said = try_refused c.args.levels c.args.queues c.args.nodes c.args.ops.now _ told c.args.bound c.args.room.now in
    search (rules, said)

pub returns : goal.returns
returns c =
    let told = c.in_ok-request.ensures in
    let listed = c.list_texts.ensures in
    try_on _ _ _ _ told.2 _ _ _ (rw (told.0, told.1, c.from.ensures) at listed)
