use Rattle.std.proofs.Common.{◌+◌, ◌*◌, ◌-◌, length-set, arith}
use Rattle.outcomes.specs.Tallies.{add_entry}
use Rattle.outcomes.specs.TalliesLaws.{words_put}
use Rattle.outcomes.proofs.add_entry.Goals as goal

pub returns : goal.returns
unfolding add_entry
returns c =
    let n = c.args.n in
    rw c.copy_from_slice.ensures.after
    (words_put _ c.args.key.now (2 + 5 * n) (2 + 5 * n + 5 - (2 + 5 * n + 1)) (omega arith) (simp length-set (omega arith)) c.told-key)
