use Rattle.std.proofs.Common.{ap, ◌∙◌, arith}
use Rattle.outcomes.specs.Notes.{Notes}
use Rattle.outcomes.specs.TalliesLaws.{tallied_is, tallied_short}
use Rattle.outcomes.proofs.Trial.tally.Goals as goal

pub returns-then-tallies-lt-TALLIES : goal.returns-then-tallies-lt-TALLIES
returns-then-tallies-lt-TALLIES c = λ f. tallied_short _ _ _ _ _ c.if-tallies-lt-TALLIES.true

pub returns : goal.returns
returns c =
    let is = c.in-Some.ensures in
    let outcome = ap (λ (x : Notes). x.1) (rw (is.0, is.1, is.2) at c.outcome-notes.ensures) in
    λ f. c.count.ensures
    ∙ tallied_is _ _ _ _ _ _ _ _ _ (omega arith) outcome c.key.ensures c.table_words-n.ensures.value f.sized f.table
