use Rattle.logs.specs.Laws.{log_short, log_cramped, log_written}
use Rattle.logs.proofs.write_log.Goals as goal

pub returns-then-table-lt-TABLE : goal.returns-then-table-lt-TABLE
returns-then-table-lt-TABLE c = log_short _ _ _ _ c.if-table-lt-TABLE.true

pub returns-then-room : goal.returns-then-room
returns-then-room c = log_cramped _ _ _ _ c.if-table-lt-TABLE.false (rw c.room.ensures at c.if-room.true)

pub returns : goal.returns
returns c =
    rw c.ok_or.ensures.value
    (log_written _ _ _ _ (rw c.room.ensures at c.if-room.false) _ c.if-table-lt-TABLE.false c.write_from_start.ensures)
