use Prim.Native.Nat.{◌+◌, ◌*◌}
use Rattle.search.proofs.Search.+explore.Given as goal

abbrev pub decreases-explore_begin : goal.decreases-explore_begin
decreases-explore_begin g l = 3 * l.at.left

abbrev pub decreases-explore_saved : goal.decreases-explore_saved
decreases-explore_saved g l = 3 * l.at.left + 1

abbrev pub decreases-explore_step : goal.decreases-explore_step
decreases-explore_step g l = 3 * l.at.left
