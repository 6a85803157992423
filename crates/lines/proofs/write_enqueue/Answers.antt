use Rattle.heads.specs.Laws.{put_after}
use Rattle.text.specs.Text.{event_text}
use Rattle.lines.proofs.write_enqueue.Goals as goal

pub returns : goal.returns
unfolding event_text
returns c =
    put_after c.write_head-level.ensures
    (put_after c.write_field-queue.ensures (put_after c.write_field-node.ensures c.write_field.ensures))
