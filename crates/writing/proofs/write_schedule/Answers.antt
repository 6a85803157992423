use Rattle.std.proofs.Common.{sym}
use Rattle.text.specs.Reading.{line_answer}
use Rattle.writing.specs.Writing.{written_answer}
use Rattle.writing.specs.Laws.{ready, written, not_written}
use Rattle.writing.proofs.write_schedule.Goals as goal

pub returns-then-room-n : goal.returns-then-room-n
unfolding line_answer written_answer
returns-then-room-n c =
    not_written c.args.words.now c.args.room.now _ (ready c.args.words.now _ (sym c.in_ok-n.ensures)) c.if-room-n.true

pub returns : goal.returns
unfolding line_answer written_answer
returns c =
    written c.args.words.now c.args.room.now _ _ _ (ready c.args.words.now _ (sym c.in_ok-n.ensures)) c.if-room-n.false c.write_text.ensures
