use Rattle.std.proofs.Common.{◌≡◌, ◌+◌, ◌*◌, ◌-◌, ◌≤◌, length}
use Rattle.text.specs.Text.{events_text}
use Rattle.entries.proofs.Entries.{events_at}
use Rattle.entries.proofs.Schedule.events_size.Given as goal

-- what was counted, and what the events from operation j on have, is what all have
abbrev pub invariant-loop-j : goal.invariant-loop-j
invariant-loop-j l =
    let ops = l.self.ops.now in
    let path = l.self.path in
    let k = l.self.k in
    record {
      few : l.events ≤ 2 * l.j;
      events : l.events + length (events_at ops path l.j (k - l.j)) ≡ length (events_at ops path 0 k);
      bytes : l.bytes + length (events_text (events_at ops path l.j (k - l.j))) ≡ length (events_text (events_at ops path 0 k));
    }
