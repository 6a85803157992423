use Prim.Native.Nat.{◌-◌}
use mathlib.Core.Path.{◌≡◌}
use Rattle.conditions.specs.Conditions.{some}
use Rattle.conditions.proofs.some_level.Given as goal

abbrev pub invariant-loop-i : goal.invariant-loop-i
invariant-loop-i l = some l.s l.t l.w l.from (l.to - l.from) ≡ some l.s l.t l.w l.i (l.to - l.i)
