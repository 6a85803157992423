use mathlib.Core.Path.{◌≡◌}
use lib.ListN.{length}
use Rattle.fresh.specs.Fresh.{ended}
use Rattle.fresh.proofs.put_ends.Given as goal

abbrev pub invariant-loop-i : goal.invariant-loop-i
invariant-loop-i l = (length l.t ≡ length l.initial.t) × (l.t ≡ ended l.s l.i l.initial.t)
