use Rattle.std.specs.Prelude.{Some}
use Rattle.ways.specs.Forced.{stretched}
use Rattle.words.specs.Layout.{measured}
use lib.ListN.{length}
use mathlib.Core.Path.{◌≡◌}
use Prim.Native.Nat.{◌≤◌}
use Rattle.ways.proofs.stretch.Given as goal

abbrev pub invariant-loop-rest : goal.invariant-loop-rest
invariant-loop-rest l =
    (l.rest ≤ l.left) × (length l.t ≡ length l.initial.t) × (measured l.t ≡ Some l.s) × (stretched l.o l.left l.initial.t ≡ stretched l.o l.rest l.t)

abbrev pub decreases-loop-rest : goal.decreases-loop-rest
decreases-loop-rest l = l.rest
