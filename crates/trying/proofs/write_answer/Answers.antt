use Rattle.std.proofs.Common.{sym, length-take-le, arith}
use Rattle.tasks.specs.Tasks.{task_says}
use Rattle.trying.specs.Trying.{list_told, count_told, asked_of}
use Rattle.trying.specs.Laws.{task_fits, task_told_holds, wrong_told, refused_told_holds}
use Rattle.trying.proofs.write_answer.Goals as goal

pub slice_bounds-words-end : goal.slice_bounds-words-end
unfolding task_says
slice_bounds-words-end c = task_fits _ _ _ _ _ (omega arith) c.in-Ok.ensures c.from-n.ensures

pub slice_bounds-ops-end : goal.slice_bounds-ops-end
unfolding task_says
slice_bounds-ops-end c = sym (length-take-le _ _ (task_fits _ _ _ _ _ (omega arith) c.in-Ok.ensures c.from-n.ensures))

pub returns-in-Schedules : goal.returns-in-Schedules
unfolding task_says
returns-in-Schedules c =
    rw c.in-Schedules.is
    (task_told_holds (list_told _ _) _ _ _ _ _ _ _ (omega arith) c.in-Ok.ensures c.from-n.ensures c.list_schedules.ensures)

pub returns-in-Outcomes : goal.returns-in-Outcomes
unfolding task_says
returns-in-Outcomes c =
    rw c.in-Outcomes.is
    (task_told_holds (count_told _) _ _ _ _ _ _ _ (omega arith) c.in-Ok.ensures c.from-n.ensures c.count_schedules.ensures)

pub returns-in-Err-Line : goal.returns-in-Err-Line
unfolding task_says
returns-in-Err-Line c =
    wrong_told (asked_of c.args.asked _) _ _ _ _ _ _ (rw (c.in-Err-Line.field-0-is, ← c.in-Err-Line.bad-is) at c.in-Err-Line.ensures)
    c.tell_wrong.ensures

pub returns-in-Err-TooMany : goal.returns-in-Err-TooMany
unfolding task_says
returns-in-Err-TooMany c =
    refused_told_holds (asked_of c.args.asked _) _ _ _ _ _ _ (rw c.in-Err-TooMany.field-0-is at c.in-Err-TooMany.ensures)
    c.tell_refused.ensures
