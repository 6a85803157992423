use Rattle.std.proofs.Common.{lit≤}
use Rattle.tries.specs.Answers.{words_fit}
use Rattle.tries.proofs.list_all.Goals as goal

pub list_in-requires-else-words_of-le-SMALL : goal.list_in-requires-else-words_of-le-SMALL
list_in-requires-else-words_of-le-SMALL c = (words_fit _ c.args.request.fits.0, lit≤ tt)
