use Rattle.std.proofs.Common.{◌≡◌, ◌-◌}
use Rattle.outcomes.specs.Outcomes.{into, replay_from}
use Rattle.outcomes.proofs.Notes.replay.Given as goal

abbrev pub invariant-loop-i : goal.invariant-loop-i
invariant-loop-i l =
    let s = l.schedule in
    into l.initial.self (replay_from s.k s.ops.now s.path 0 l.initial.t) ≡ into l.self (replay_from (s.k - l.i) s.ops.now s.path l.i l.t)
