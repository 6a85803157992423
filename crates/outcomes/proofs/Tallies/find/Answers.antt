use Rattle.std.proofs.Common.{arith, rules, tests}
use Rattle.std.proofs.lemmas.Iterator.{YieldsList-from_range}
use Rattle.std.proofs.lemmas.Iterator.Search.{position_from_yields_List}
use Rattle.outcomes.specs.Tallies.{has_key}
use Rattle.outcomes.specs.TalliesLaws.{place_found}
use Rattle.outcomes.proofs.Tallies.find.Goals as goal

pub returns : goal.returns
returns c =
    let ts = c.args.self.now.words.now in
    let key = c.args.key.now in
    place_found ts key c.args.n _
    (position_from_yields_List (λ j. has_key ts j key) _ _ _ c.position.ensures.ran (YieldsList-from_range 0 c.args.n c.args.n (cc) (omega arith))
    (λ x b q k. search (rules, tests)))
