use Rattle.std.proofs.Common.{sym, ◌∙◌, arith}
use Rattle.outcomes.specs.LinesLaws.{decimal_std}
use Rattle.outcomes.proofs.put_decimal.Goals as goal

pub returns : goal.returns
returns c =
    let text = c.as_bytes.ensures.value ∙ c.format.ensures.text ∙ sym (decimal_std c.args.n (omega arith)) in
    rw text at c.put.ensures
