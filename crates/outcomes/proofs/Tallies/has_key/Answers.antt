use Rattle.std.proofs.Common.{◌+◌, ◌*◌, ◌-◌, ◌∙◌, arith}
use Rattle.outcomes.specs.TalliesLaws.{key_compared}
use Rattle.outcomes.proofs.Tallies.has_key.Goals as goal

pub returns : goal.returns
returns c =
    let i = c.args.i in
    c.eq.ensures ∙ key_compared _ i (3 + 5 * i + 4 - (3 + 5 * i)) _ (omega arith) (omega arith) c.told-key
