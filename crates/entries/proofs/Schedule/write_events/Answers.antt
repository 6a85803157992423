use Rattle.std.proofs.Common.{ℕ, ◌+◌, ◌-◌, List, [], ◌++◌, length, get_or, refl, ap, arith, length-append}
use Rattle.heads.specs.Laws.{putting_goes_on, putting_ends}
use Rattle.text.specs.Text.{events_text}
use Rattle.entries.specs.Texts.{step_events}
use Rattle.entries.proofs.Entries.{events_at, at_more, bytes_at_more, event_bytes, event_text_holds, text_at_end}
use Rattle.entries.proofs.Schedule.write_events.Goals as goal

pub write_steps-to-requires : goal.write_steps-to-requires
write_steps-to-requires c =
    let s = c.args.self.now in omega (arith, bytes_at_more s.ops.now s.path c.loop-j.j s.k c.loop-j-test.true)

pub write_event-to-requires : goal.write_event-to-requires
write_event-to-requires c =
    let s = c.args.self.now in
    let j = c.loop-j.j in
    omega (
      arith,
      bytes_at_more s.ops.now s.path j s.k c.loop-j-test.true,
      event_bytes s.ops.now j _ _ c.op_event.ensures c.op_in.ensures,
    )

pub loop-j-preserved : goal.loop-j-preserved
loop-j-preserved c =
    let s = c.args.self.now in
    let j = c.loop-j.j in
    let steps = putting_goes_on (at_more s.ops.now s.path j s.k c.loop-j-test.true) c.loop-j.invariant c.write_steps-to.ensures in
    let event = event_text_holds s.ops.now j _ _ c.op_event.ensures c.op_in.ensures in
    putting_goes_on (ap (λ (z : List ℕ). z ++ events_text (events_at s.ops.now s.path (j + 1) (s.k - (j + 1)))) event) steps
    c.write_event-to.ensures

pub write_steps-requires : goal.write_steps-requires
write_steps-requires c =
    let s = c.args.self.now in
    let last = text_at_end s.ops.now s.path c.loop-j.j s.k (omega arith) c.loop-j-test.false in
    omega (arith, ap length last, length-append (events_text (step_events (get_or s.path s.k 0))) [])

pub returns : goal.returns
returns c =
    let s = c.args.self.now in
    let last = text_at_end s.ops.now s.path c.loop-j.j s.k (omega arith) c.loop-j-test.false in
    putting_ends refl (putting_goes_on last c.loop-j.invariant c.write_steps.ensures)
