use Rattle.std.proofs.Common.{◌+◌, ◌-◌, sym, ◌∙◌, arith}
use Rattle.text.specs.Reading.{line_answer}
use Rattle.schedule.specs.Laws.{rest_goes_on}
use Rattle.schedule.proofs.read_rest.Goals as goal

pub loop-preserved : goal.loop-preserved
unfolding line_answer
loop-preserved g c =
    let next = rest_goes_on g.E.Events.reading (c.args.count - c.loop.counter) (c.args.count - (c.loop.counter + 1)) c.args.text.now c.loop.at _ (omega arith) (sym c.in_ok-at.ensures) in
    sym next ∙ c.loop.invariant
