use Rattle.std.proofs.Common.{◌≡◌}
use Rattle.loglines.specs.Lines.{line_of}
use Rattle.loglines.specs.Ink.{page}
use Rattle.play.specs.Play.{steps_of}
use Rattle.play.specs.Parts.{into}
use Rattle.play.proofs.play_steps.Given as goal

abbrev pub invariant-loop-left : goal.invariant-loop-left
invariant-loop-left l = record {
  same_room : l.sheet.room.ghost_name ≡ l.initial.sheet.room.ghost_name;
  others : into (page l.initial.sheet) (steps_of (line_of l.bound_nodes) l.count l.initial.table)
      ≡ into (page l.sheet) (steps_of (line_of l.bound_nodes) l.left l.table);
}

abbrev pub decreases-loop-left : goal.decreases-loop-left
decreases-loop-left l = l.left
