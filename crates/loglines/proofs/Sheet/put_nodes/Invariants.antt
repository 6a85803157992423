use Rattle.std.proofs.Common.{take}
use Rattle.loglines.specs.Lines.{nodes_text}
use Rattle.loglines.specs.Ink.{Writes}
use Rattle.loglines.proofs.Sheet.put_nodes.Given as goal

abbrev pub invariant-loop-n : goal.invariant-loop-n
invariant-loop-n l = Writes l.initial.self l.self (nodes_text (take l.n-index l.nodes))
