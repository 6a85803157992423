use Rattle.std.proofs.Common.{◌-◌}
use Rattle.heads.specs.Put.{Putting}
use Rattle.text.specs.Text.{events_text}
use Rattle.entries.proofs.Entries.{events_at}
use Rattle.entries.proofs.Schedule.write_events.Given as goal

-- the events from operation j on are left to write
abbrev pub invariant-loop-j : goal.invariant-loop-j
invariant-loop-j l =
    let ops = l.self.ops.now in
    let path = l.self.path in
    let k = l.self.k in
    Putting l.to l.room l.initial.room l.place (events_text (events_at ops path 0 k)) (events_text (events_at ops path l.j (k - l.j)))
