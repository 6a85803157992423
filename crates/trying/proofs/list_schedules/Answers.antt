use Rattle.trying.specs.Laws.{tried_says, tried_refused}
use Rattle.trying.proofs.list_schedules.Goals as goal

pub returns-in-Ok : goal.returns-in-Ok
returns-in-Ok c = tried_says c.in-Ok.ensures

pub returns-in-Err : goal.returns-in-Err
returns-in-Err c = tried_refused c.in-Err.ensures c.tell_refused.ensures
