use Rattle.std.proofs.Common.{◌+◌, ◌-◌, ◌≡◌, sym, ◌∙◌, arith, Some}
use Rattle.writing.specs.Writing.{event_in}
use Rattle.writing.specs.Laws.{event_on, lengths_more}
use Rattle.writing.proofs.measure_events.Goals as goal

pub loop-line-preserved : goal.loop-line-preserved
loop-line-preserved c =
    let words = c.args.words.now in
    let l = c.loop-line in
    let left = 6 + c.args.count - l.line in
    let is : event_in words l.at ≡ Some (c.in_ok-e.e, c.in_ok-e.next) = grind arith in
    let less : left - 1 ≡ 6 + c.args.count - (l.line + 1) = omega arith in (
      event_on words l.at _ _ is,
      omega (arith, l.invariant.1, c.event_length-n.ensures.1),
      rw (c.event_length-n.ensures.0, ← less) (sym (lengths_more l.n left l.line words l.at _ _ (omega arith) is) ∙ l.invariant.2),
    )
