-- The bytes of both logs are in their rooms.
use Rattle.std.proofs.Common.{arith}
use Rattle.logs.specs.Laws.{log_within}
use Rattle.corpus.proofs.Desk.write_logs.Goals as goal

pub shared_ref_as_front-log : goal.shared_ref_as_front-log
shared_ref_as_front-log c = let within = log_within _ _ _ _ _ _ _ c.in-Ok.ensures in omega arith

pub shared_ref_as_front-agree : goal.shared_ref_as_front-agree
shared_ref_as_front-agree c = let within = log_within _ _ _ _ _ _ _ c.in-Ok-write_log.ensures in omega arith
