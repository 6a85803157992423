use Rattle.heads.specs.Laws.{put_after}
use Rattle.text.specs.Text.{opening_text}
use Rattle.lines.proofs.write_opening.Goals as goal

pub returns : goal.returns
unfolding opening_text
returns c =
    put_after c.write_head-levels.ensures
    (put_after c.write_field-queues.ensures
    (put_after c.write_field-nodes.ensures (put_after c.write_field-events.ensures c.write_field.ensures)))
