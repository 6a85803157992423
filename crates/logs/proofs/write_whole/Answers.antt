use Rattle.std.proofs.Common.{sym}
use Rattle.text.specs.Reading.{line_answer}
use Rattle.logs.specs.Laws.{log_right, log_wrong}
use Rattle.logs.proofs.write_whole.Goals as goal

pub returns-in-Ok : goal.returns-in-Ok
unfolding line_answer
returns-in-Ok c = record {
  same_room = c.write_played.ensures.same_room;
  played = log_right _ _ _ _ _ _ (sym c.in-Ok.ensures) c.write_played.ensures.played;
}

pub returns-in-Err : goal.returns-in-Err
unfolding line_answer
returns-in-Err c = record {
  same_room = c.put_text_refusal.ensures.same_room;
  played = log_wrong _ _ _ _ _ (sym c.in-Err.ensures) c.put_text_refusal.ensures.inked;
}
