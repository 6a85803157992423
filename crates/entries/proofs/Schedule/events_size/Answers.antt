use Rattle.std.proofs.Common.{List, length, ap, arith}
use Rattle.text.specs.declared.Event.{Event}
use Rattle.text.specs.Text.{events_text}
use Rattle.entries.proofs.Entries.{count_at_more, bytes_at_more, event_bytes, events_top, at_end}
use Rattle.entries.proofs.Schedule.events_size.Goals as goal

pub overflow_add-bytes-in-loop-j : goal.overflow_add-bytes-in-loop-j
overflow_add-bytes-in-loop-j c = let s = c.args.self.now in omega (arith, events_top s.ops.now s.path 0 s.k)

pub loop-j-preserved : goal.loop-j-preserved
loop-j-preserved c =
    let s = c.args.self.now in
    let j = c.loop-j.j in
    record {
      few = omega arith;
      events = omega (arith, count_at_more s.ops.now s.path j s.k c.loop-j-test.true);
      bytes = omega (
        arith,
        bytes_at_more s.ops.now s.path j s.k c.loop-j-test.true,
        event_bytes s.ops.now j _ _ c.op_event.ensures c.op_in.ensures,
      );
    }

pub overflow_add-result-2 : goal.overflow_add-result-2
overflow_add-result-2 c = let s = c.args.self.now in omega (arith, events_top s.ops.now s.path 0 s.k)

pub returns : goal.returns
returns c =
    let s = c.args.self.now in
    let last = at_end s.ops.now s.path c.loop-j.j s.k (omega arith) c.loop-j-test.false in
    let bytes_last = ap (λ (es : List Event). length (events_text es)) last in (
      omega (arith, ap length last),
      omega (arith, bytes_last),
      omega (arith, bytes_last, events_top s.ops.now s.path 0 s.k),
    )
