use Rattle.std.specs.Prelude.{◌≡◌, length, drop}
use Rattle.std.proofs.Math.Seq.{paste}
use Rattle.words.proofs.copy_part.Given as goal

abbrev pub invariant-loop-i : goal.invariant-loop-i
invariant-loop-i l = (length l.to ≡ length l.initial.to) × (l.to ≡ paste l.initial.to l.place (drop l.at l.from) l.i)
