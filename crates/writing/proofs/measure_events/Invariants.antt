use Rattle.std.proofs.Common.{◌≡◌, ◌+◌, ◌-◌, ◌*◌, ◌≤◌, length}
use Rattle.writing.specs.Parts.{lengths_in}
use Rattle.writing.proofs.measure_events.Given as goal

abbrev pub invariant-loop-line : goal.invariant-loop-line
invariant-loop-line l =
    (l.at ≤ length l.words)
    × (l.n + 20 * (6 + l.count - l.line) ≤ 26 + 20 * l.count)
    × (lengths_in l.n (6 + l.count - l.line) l.line l.words l.at ≡ lengths_in l.start l.count 6 l.words 4)
