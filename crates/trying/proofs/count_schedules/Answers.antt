use Rattle.std.proofs.Common.{◌≡◌, ◌∙◌}
use Rattle.trying.specs.Trying.{answer_says}
use Rattle.trying.specs.Laws.{written_says, ok_says, count_lines, count_refused}
use Rattle.trying.proofs.count_schedules.Goals as goal

pub returns-in-Ok : goal.returns-in-Ok
returns-in-Ok c =
    let written = c.write_outcomes.result in
    let said : answer_says c.whole.result ≡ written_says written = c.whole.ensures ∙ rw c.ok.ensures.value (ok_says written) in
    rw said (count_lines c.args.o _ _ _ _ _ _ c.in-Ok.ensures c.write_outcomes.ensures)

pub returns-in-Err : goal.returns-in-Err
returns-in-Err c = count_refused c.args.o _ _ _ _ _ c.in-Err.ensures c.tell_refused.ensures
