-- The starred worked runs hold: one theorem over one list, by computation.
use Rattle.std.specs.Prelude.{refl}
use Rattle.words.specs.Layout.{within, limits, put_counts, agrees, measured, has, addr, rd, wr, frame_at, frame_of, put_frame}
use Rattle.table.specs.Frames.{counted, if_eq, below_k_to, below_m_to, walk_to}
use Rattle.table.specs.Points.{point_of}
use Rattle.table.specs.Table.{row}
use Rattle.steps.specs.Step.{serving, strays, sound, settled, performed, step_frame, step_served, step_sized, step_measured, step_of}
use Rattle.conditions.specs.Conditions.{sought, some, no_level, no_queue, no_node, busy, in_use, dequeued, unquiet}
use Rattle.begins.specs.Begin.{unless, enqueue_why, enqueue_sized, enqueue_measured, enqueue_of, dequeue_why, dequeue_sized, dequeue_measured, dequeue_of}
use Rattle.decimals.specs.Decimals.{width_of, last_digits, digits_of, field_of, is_digit, goes_on, rest_in, field_in, field_at, rest_of}
use Rattle.heads.specs.Heads.{begins, stands_at}
use Rattle.text.specs.Reading.{lfs, line_at, line_starts, enqueue_in, dequeue_in, steps_in, event_in, sizes_reading, event_reading, end_reading}
use Rattle.schedule.specs.Whole.{events_by, schedule_reading}
use Rattle.fresh.specs.Fresh.{ended, fresh_table, fresh_of}
use Rattle.asks.specs.Listing.{before, chain, nodes_from, listed, listing_sized, listing_measured, listing_of}
use Rattle.loglines.specs.Lines.{text_line, refusal_line, operation_text, end_line, bound_line, nodes_text, queue_line, unquiet_line}
use Rattle.play.specs.Play.{go_on, steps_of, event_of, follow, events_of}
use Rattle.logs.specs.Log.{listed_line, queue_of, queues_of, sized_log, read_log, log_text}
use Rattle.runs.specs.Runs.{Holds, starred, All}

pub starred_hold : All Holds starred
unfolding within limits put_counts agrees measured has addr rd wr frame_at frame_of put_frame counted if_eq below_k_to below_m_to walk_to point_of row serving strays sound settled performed step_frame step_served step_sized step_measured step_of sought some no_level no_queue no_node busy in_use dequeued unquiet unless enqueue_why enqueue_sized enqueue_measured enqueue_of dequeue_why dequeue_sized dequeue_measured dequeue_of width_of last_digits digits_of field_of is_digit goes_on rest_in field_in field_at rest_of begins stands_at lfs line_at line_starts enqueue_in dequeue_in steps_in event_in sizes_reading event_reading end_reading events_by schedule_reading ended fresh_table fresh_of before chain nodes_from listed listing_sized listing_measured listing_of text_line refusal_line operation_text end_line bound_line nodes_text queue_line unquiet_line go_on steps_of event_of follow events_of listed_line queue_of queues_of sized_log read_log log_text
starred_hold = (refl, (refl, (refl, (refl, (refl, (refl, ((refl, refl), (refl, (refl, (refl, (refl, (refl, (refl, tt)))))))))))))
