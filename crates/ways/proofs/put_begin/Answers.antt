use Rattle.ways.specs.Calls.{begun_enqueue, begun_dequeue, accepted_two, accepted_nodeless}
use Rattle.ways.proofs.put_begin.Goals as goal

pub returns-then-o-eq1 : goal.returns-then-o-eq1
returns-then-o-eq1 c = begun_enqueue _ _ _ _ c.requires.0 c.if-o-eq1.true c.put_enqueue.ensures

pub returns-else-o-eq1 : goal.returns-else-o-eq1
returns-else-o-eq1 c =
    let two = accepted_two _ _ c.if-o-eq1.false c.requires.1 in
    begun_dequeue _ _ _ _ c.requires.0 two (accepted_nodeless _ _ two c.requires.1) c.put_dequeue.ensures
