use Rattle.std.proofs.Common.{arith}
use Rattle.heads.specs.Laws.{put_after}
use Rattle.writing.specs.Laws.{whole_is, whole_length}
use Rattle.writing.proofs.write_text.Goals as goal

pub write_opening-at-requires : goal.write_opening-at-requires
write_opening-at-requires c = omega (arith, whole_length c.args.words.now c.opening_in-o.result c.opening_in-o.ensures)

pub returns : goal.returns
returns c =
    rw (whole_is c.args.words.now c.opening_in-o.result c.opening_in-o.ensures) at (put_after c.write_opening-at.ensures c.write_events.ensures)
