use Rattle.loglines.specs.Ink.{Writes}
use Rattle.logs.specs.Log.{queues_of}
use Rattle.logs.proofs.write_queues.Given as goal

abbrev pub invariant-loop-i : goal.invariant-loop-i
invariant-loop-i l = Writes l.initial.sheet l.sheet (queues_of l.table 1 l.i)
