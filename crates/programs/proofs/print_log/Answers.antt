-- The log's bytes are in the room.
use Rattle.std.proofs.Common.{sym, length-take-le}
use Rattle.logs.specs.Laws.{log_within}
use Rattle.programs.proofs.print_log.Goals as goal

pub slice_bounds-write_output-end : goal.slice_bounds-write_output-end
slice_bounds-write_output-end c = log_within _ _ _ _ _ _ _ c.in-Ok.ensures

pub slice_bounds-write_output-end-in-Ok : goal.slice_bounds-write_output-end-in-Ok
slice_bounds-write_output-end-in-Ok c =
    sym (length-take-le _ _ (log_within _ _ _ _ _ _ _ c.in-Ok.ensures))
