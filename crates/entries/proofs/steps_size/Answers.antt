use Rattle.std.proofs.Common.{length, ap, arith}
use Rattle.entries.proofs.Entries.{some_steps, steps_text, s_line_top}
use Rattle.entries.proofs.steps_size.Goals as goal

pub returns-else-c-eq0 : goal.returns-else-c-eq0
returns-else-c-eq0 c =
    let line = ap length (some_steps _ c.if-c-eq0.false) in
    let bytes = ap length (steps_text _ c.if-c-eq0.false) in
    (omega arith, omega arith, omega arith, omega (arith, s_line_top c.args.c))
