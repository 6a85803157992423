use Rattle.std.proofs.Common.{◌≡◌, ◌+◌, ◌-◌}
use Rattle.loglines.specs.Lines.{line_of}
use Rattle.loglines.specs.Ink.{page}
use Rattle.play.specs.Parts.{into, at_place}
use Rattle.play.proofs.play_events.Given as goal

abbrev pub invariant-loop-i : goal.invariant-loop-i
invariant-loop-i l = record {
  same_room : l.sheet.room.ghost_name ≡ l.initial.sheet.room.ghost_name;
  others : into (page l.initial.sheet) (at_place (line_of l.bound_nodes) l.count 1 l.text l.place l.initial.table)
      ≡ into (page l.sheet) (at_place (line_of l.bound_nodes) (l.count - l.i) (l.i + 1) l.text l.at l.table);
}
