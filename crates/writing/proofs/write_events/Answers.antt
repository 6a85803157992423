use Rattle.std.proofs.Common.{◌+◌, ◌-◌, ◌≡◌, sym, ◌∙◌, arith}
use Rattle.heads.specs.Laws.{putting_goes_on}
use Rattle.writing.specs.Laws.{event_on, lines_more, lines_room}
use Rattle.writing.proofs.write_events.Goals as goal

pub write_event-to-requires : goal.write_event-to-requires
write_event-to-requires c =
    let l = c.loop in
    omega (
      arith,
      lines_room (c.args.count - l.counter) c.args.words.now l.at _ _ (omega arith) (sym c.in-Some.ensures),
      l.invariant.2.next,
    )

pub loop-preserved : goal.loop-preserved
loop-preserved c =
    let words = c.args.words.now in
    let l = c.loop in
    let left = c.args.count - l.counter in
    let is = sym c.in-Some.ensures in
    let less : left - 1 ≡ c.args.count - (l.counter + 1) = omega arith in (
      event_on words l.at _ _ is,
      c.write_event-to.auto.room ∙ l.invariant.1,
      rw (← less) (putting_goes_on (lines_more left words l.at _ _ (omega arith) is) l.invariant.2 c.write_event-to.ensures),
    )
