use Rattle.std.proofs.Common.{sym, length-take-le}
use Rattle.logs.specs.Listed.{listing_count}
use Rattle.logs.specs.Laws.{queue_listed, queue_unlisted}
use Rattle.logs.proofs.write_queue.Goals as goal

pub slice_bounds-nodes-end : goal.slice_bounds-nodes-end
slice_bounds-nodes-end c = rw c.from.ensures (listing_count _ _ _ _ _ c.in-Ok.ensures).1

pub slice_bounds-put_queue-end : goal.slice_bounds-put_queue-end
slice_bounds-put_queue-end c = sym (length-take-le _ _ (rw c.from.ensures (listing_count _ _ _ _ _ c.in-Ok.ensures).1))

pub returns-in-Ok : goal.returns-in-Ok
returns-in-Ok c = rw (queue_listed _ _ _ _ c.in-Ok.ensures) (rw c.from.ensures at c.put_queue.ensures)

pub returns-in-Err : goal.returns-in-Err
returns-in-Err c = rw (queue_unlisted _ _ _ _ c.in-Err.ensures) c.put_unquiet.ensures
