use Rattle.std.proofs.Common.{ℕ, List, ap}
use Rattle.answers.specs.Said.{Said}
use Rattle.outcomes.specs.OutcomesLaws.{outcome_noted}
use Rattle.outcomes.proofs.Trial.outcome.Goals as goal

pub returns : goal.returns
returns c =
    let fresh = ap (λ (p : Said Unit × List ℕ). p.1) c.fresh_table.ensures in
    rw (fresh, ← c.new-notes.ensures) (outcome_noted _ _ _ _ _ _ _ _ _ _ c.replay.ensures c.put.ensures c.put_queues.ensures)
