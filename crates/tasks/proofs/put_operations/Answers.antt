use Rattle.std.proofs.Common.{◌+◌, ◌-◌, ◌≡◌, sym, ◌∙◌, arith}
use Rattle.text.specs.Reading.{line_answer}
use Rattle.tasks.specs.Parts.{words_from}
use Rattle.tasks.specs.Laws.{words_short, words_more, sets_after}
use Rattle.tasks.proofs.put_operations.Goals as goal

pub loop-preserved : goal.loop-preserved
unfolding line_answer
loop-preserved c =
    let text = c.args.text.now in
    let left = c.args.count - c.loop.counter in
    let more = words_more left text c.loop.at c.in-Ok.e c.in-Ok.next (omega arith) (sym c.in-Ok.ensures) in
    let less : left - 1 ≡ c.args.count - (c.loop.counter + 1) = omega arith in
    let after = sets_after (words_from (left - 1) text c.in-Ok.next) c.put_operation-n.ensures in (
      omega (arith, c.loop.invariant.0, c.put_operation-n.ensures.next, words_short c.in-Ok.e),
      rw (← less) (after ∙ rw (sym more) c.loop.invariant.1),
    )
