use Rattle.std.proofs.Common.{refl, sym, ◌∙◌}
use Rattle.outcomes.specs.TalliesLaws.{count_kept, count_new, count_other}
use Rattle.outcomes.proofs.count.Goals as goal

pub returns-in-Some : goal.returns-in-Some
returns-in-Some c = c.add_one.ensures ∙ sym (count_kept _ _ _ _ c.known-n.ensures.0 c.in-Some.ensures.0 c.in-Some.ensures.1)

pub returns-in-None : goal.returns-in-None
returns-in-None c = c.add_entry.ensures ∙ sym (count_new _ _ _ _ c.known-n.ensures.0 refl c.in-None.ensures c.if-n-lt-KEPT.true)

pub returns-in-None-2 : goal.returns-in-None-2
returns-in-None-2 c =
    c.add_one-in-None-2.ensures ∙ sym (count_other _ _ _ _ c.known-n.ensures.0 refl c.in-None.ensures c.if-n-lt-KEPT.false)
