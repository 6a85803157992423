-- By computation.
use mathlib.Core.Path.{refl}
use Rattle.words.specs.Layout.{within, limits, put_counts, agrees, measured}
use Rattle.words.specs.Layout.{has, addr, rd, wr, frame_at, frame_of, put_frame}
use Rattle.words.specs.Copy.{spread, raised}
use Rattle.fresh.specs.Fresh.{ended, fresh_table}
use Rattle.table.specs.Frames.{counted, if_eq, below_k_to, below_m_to, walk_to}
use Rattle.table.specs.Points.{point_of}
use Rattle.table.specs.Table.{row}
use Rattle.steps.specs.Step.{serving, strays, sound, settled, performed, step_frame, step_served, step_sized}
use Rattle.steps.specs.Run.{ran_on, run_from}
use Rattle.conditions.specs.Conditions.{sought, some, no_level, no_queue, no_node, busy, in_use, dequeued}
use Rattle.begins.specs.Begin.{unless, enqueue_why, enqueue_sized, dequeue_why, dequeue_sized}
use Rattle.waiting.specs.Waiting.{drain_on, drained, waiting_sized, waiting_measured, waiting_of}
use Rattle.lists.specs.Beginning.{without}
use Rattle.demand.specs.History.{along, still_in}
use Rattle.drains.specs.Naming.{named, naming}
use Rattle.drains.specs.Examples.{ReaderGets, DamagedGets}

pub reader_gets : ReaderGets
unfolding within limits put_counts agrees measured has addr rd wr frame_at frame_of put_frame counted if_eq below_k_to below_m_to walk_to point_of row
    serving strays sound settled performed step_frame step_served step_sized sought some no_level no_queue no_node busy in_use dequeued unless
    enqueue_why enqueue_sized dequeue_why dequeue_sized ended fresh_table ran_on run_from without along still_in spread raised drain_on drained
    waiting_sized waiting_measured waiting_of named naming
reader_gets = (refl, refl, refl, refl)

pub damaged_gets : DamagedGets
unfolding within limits put_counts agrees measured has addr rd wr frame_at frame_of put_frame counted if_eq below_k_to below_m_to walk_to point_of row
    serving strays sound settled performed step_frame step_served step_sized sought some no_level no_queue busy dequeued unless
    dequeue_why dequeue_sized ended fresh_table spread raised drain_on drained waiting_sized waiting_measured waiting_of
damaged_gets = (refl, refl)
