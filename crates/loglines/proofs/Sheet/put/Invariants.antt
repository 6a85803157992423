use Rattle.std.proofs.Common.{take}
use Rattle.loglines.specs.Ink.{Writes}
use Rattle.loglines.proofs.Sheet.put.Given as goal

abbrev pub invariant-loop-b : goal.invariant-loop-b
invariant-loop-b l = Writes l.initial.self l.self (take l.b-index l.bytes)
