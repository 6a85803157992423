use Rattle.std.proofs.Common.{◌≡◌, ◌-◌, ◌≤◌, length}
use Rattle.heads.specs.Put.{Putting}
use Rattle.writing.specs.Parts.{lines_in}
use Rattle.writing.proofs.write_events.Given as goal

abbrev pub invariant-loop : goal.invariant-loop
invariant-loop l =
    (l.at ≤ length l.words)
    × (length l.room ≡ length l.initial.room)
    × Putting l.to l.room l.initial.room l.fn.place (lines_in l.count l.words 4) (lines_in (l.count - l.counter) l.words l.at)
