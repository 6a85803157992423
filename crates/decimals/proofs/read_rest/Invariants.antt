use Rattle.std.proofs.Common.{◌≡◌, ◌≤◌}
use Rattle.decimals.specs.Decimals.{rest_of}
use Rattle.decimals.proofs.read_rest.Given as goal

abbrev pub invariant-loop-at : goal.invariant-loop-at
invariant-loop-at l = (l.n ≤ 65535) × (rest_of l.end l.text l.v l.place ≡ rest_of l.end l.text l.n l.at)
