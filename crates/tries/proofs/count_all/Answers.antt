use Rattle.tries.specs.Number.{counted_all, tallied_all_holds}
use Rattle.tries.proofs.count_all.Goals as goal

pub returns-clause-value : goal.returns-clause-value
returns-clause-value c = counted_all _ _ _ _ _ _ _ c.args.request.fits.1 c.requires c.list_all.ensures

pub returns-clause-tallies_after : goal.returns-clause-tallies_after
returns-clause-tallies_after c = tallied_all_holds _ _ _ _ _ _ _ c.args.request.fits.1 c.requires c.list_all.ensures
