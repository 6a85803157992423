use Rattle.begins.specs.Laws.{dequeues}
use Rattle.begins.proofs.put_dequeue.Goals as goal

pub write_frame-requires-clause-l_lt_levels : goal.write_frame-requires-clause-l_lt_levels
write_frame-requires-clause-l_lt_levels c = (dequeues _ _ _ _ c.requires.q_value).has_l
