use Rattle.std.proofs.Common.{arith}
use Rattle.heads.specs.Laws.{put_after}
use Rattle.text.specs.Text.{text_of}
use Rattle.entries.proofs.Entries.{events_at, text_length}
use Rattle.entries.proofs.Schedule.write_text.Goals as goal

pub write_opening-at-requires : goal.write_opening-at-requires
write_opening-at-requires c =
    let s = c.args.self.now in omega (arith, text_length c.args.o (events_at s.ops.now s.path 0 s.k))

pub write_events-requires : goal.write_events-requires
write_events-requires c =
    let s = c.args.self.now in omega (arith, text_length c.args.o (events_at s.ops.now s.path 0 s.k))

pub returns : goal.returns
unfolding text_of
returns c = put_after c.write_opening-at.ensures c.write_events.ensures
