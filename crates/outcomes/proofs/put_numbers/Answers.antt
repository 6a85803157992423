use Rattle.outcomes.specs.LinesLaws.{writing_on, writing_ends, numbers_queue, numbers_end, numbers_value, numbers_none}
use Rattle.outcomes.proofs.put_numbers.Goals as goal
use Rattle.outcomes.proofs.put_numbers.Goals.{then-x, else-x+then-q-queues}

pub returns-else-q-queues : goal.returns-else-q-queues
returns-else-q-queues c =
    writing_ends c.loop-j.invariant
    (numbers_end _ _ _ c.loop-j.j _ _ c.loop-j.q c.loop-j-test.true c.number_in-x.ensures c.if-x.false c.if-q-queues.false)

pub loop-j-preserved : goal.loop-j-preserved
loop-j-preserved c =
    let j = c.loop-j.j in
    elim c.if-x.branch [
      | then-x w ↦
          rw (w.sheet-is, w.q-is)
          (writing_on c.loop-j.invariant w.put_value.ensures.same_room
          (numbers_value _ _ _ j _ _ c.loop-j.q c.loop-j-test.true c.number_in-x.ensures w.if-x.true w.put_value.ensures.inked))
      | else-x+then-q-queues w ↦
          rw (w.sheet-is, w.q-is)
          (writing_on c.loop-j.invariant w.put_queue.ensures.same_room
          (numbers_queue _ _ _ j _ _ c.loop-j.q c.loop-j-test.true c.number_in-x.ensures w.if-x.false w.if-q-queues.true
          w.put_queue.ensures.inked))
    ]

pub returns : goal.returns
returns c = writing_ends c.loop-j.invariant (numbers_none _ _ _ c.loop-j.j _ _ c.loop-j-test.false)
