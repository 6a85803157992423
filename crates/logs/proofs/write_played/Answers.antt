use Rattle.std.proofs.Common.{◌∙◌}
use Rattle.logs.specs.Laws.{placed_made, placed_refused}
use Rattle.logs.proofs.write_played.Goals as goal

pub returns-in-Ok : goal.returns-in-Ok
returns-in-Ok c =
    let events = rw c.bound_nodes.ensures at c.play_events.ensures in
    let queues = c.write_queues.ensures in
    record {
      same_room = queues.same_room ∙ events.same_room;
      played = placed_made _ _ _ _ _ _ _ c.in-Ok.ensures events.played queues.inked;
    }

pub returns-in-Err : goal.returns-in-Err
returns-in-Err c = record {
  same_room = c.put.ensures.same_room;
  played = placed_refused _ _ _ _ _ _ _ _ c.in-Err.ensures c.put.ensures.inked;
}
