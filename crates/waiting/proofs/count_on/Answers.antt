use Rattle.waiting.specs.Laws.{raised_alone}
use Rattle.waiting.proofs.count_on.Goals as goal

pub drain-requires-clause-alone : goal.drain-requires-clause-alone
drain-requires-clause-alone c =
    rw (c.add_level.ensures, c.narrow.ensures, c.raise.ensures)
    (raised_alone c.args.s c.args.t.now c.args.q c.requires.ready)
