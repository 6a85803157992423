use Rattle.std.proofs.Common.{sym, length-take-le}
use Rattle.trying.specs.Laws.{asked_within}
use Rattle.trying.proofs.print_answer.Goals as goal

pub slice_bounds-write_output-end : goal.slice_bounds-write_output-end
slice_bounds-write_output-end c = asked_within c.args.asked _ _ c.in_ok-answer.ensures

pub slice_bounds-write_output-end-2 : goal.slice_bounds-write_output-end-2
slice_bounds-write_output-end-2 c = sym (length-take-le _ _ (asked_within c.args.asked _ _ c.in_ok-answer.ensures))
