-- What the digits are is what the number so far and the digits after it are.
use Rattle.std.proofs.Common.{◌≡◌, drop}
use Rattle.trying.specs.Bounds.{number_from, bound_in}
use Rattle.trying.proofs.read_bound.Given as goal

abbrev pub invariant-loop-b : goal.invariant-loop-b
invariant-loop-b l = bound_in l.digits ≡ number_from l.n (drop l.b-index l.digits)
