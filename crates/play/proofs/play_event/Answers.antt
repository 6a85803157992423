use Rattle.std.proofs.Common.{refl}
use Rattle.play.specs.Play.{event_of}
use Rattle.play.specs.Laws.{into_quiet}
use Rattle.play.proofs.play_event.Goals as goal

pub returns-in-Enqueue : goal.returns-in-Enqueue
unfolding event_of
returns-in-Enqueue c = rw c.in-Enqueue.is record { same_room = refl; played = into_quiet _ _ _ c.begin_enqueue.ensures }

pub returns-in-Dequeue : goal.returns-in-Dequeue
unfolding event_of
returns-in-Dequeue c = rw c.in-Dequeue.is record { same_room = refl; played = into_quiet _ _ _ c.begin_dequeue.ensures }

pub returns-in-Steps : goal.returns-in-Steps
unfolding event_of
returns-in-Steps c = rw c.in-Steps.is c.play_steps.ensures
