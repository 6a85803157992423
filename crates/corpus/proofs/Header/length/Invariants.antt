use Rattle.std.proofs.Common.{◌<◌, ◌^◌}
use Rattle.corpus.proofs.Header.length.Given as goal

abbrev pub invariant-loop-b : goal.invariant-loop-b
invariant-loop-b l = l.n < 10 ^ l.b-index
