use Rattle.std.proofs.Common.{◌≡◌, Some}
use Rattle.words.specs.Layout.{measured}
use Rattle.outcomes.specs.Outcomes.{into, replay_steps}
use Rattle.outcomes.proofs.Notes.replay_sized.Given as goal

abbrev pub invariant-loop-left : goal.invariant-loop-left
invariant-loop-left l = record {
  measured : measured l.t ≡ Some l.s;
  replayed : into l.initial.self (replay_steps l.count l.initial.t) ≡ into l.self (replay_steps l.left l.t);
}

abbrev pub decreases-loop-left : goal.decreases-loop-left
decreases-loop-left l = l.left
