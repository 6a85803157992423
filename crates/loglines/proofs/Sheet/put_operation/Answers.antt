use Rattle.std.proofs.Common.{eq-eqb, ne_eqb}
use Rattle.loglines.specs.Lines.{head_of, operation_text}
use Rattle.loglines.specs.Ink.{Writes}
use Rattle.loglines.specs.Laws.{writes_then}
use Rattle.loglines.proofs.Sheet.put_operation.Goals as goal
use Rattle.loglines.proofs.Sheet.put_operation.Goals.{then-e-eq1, else-e-eq1}

pub returns : goal.returns
unfolding operation_text
returns c =
    let head : Writes c.args.self.now c.put.new.self (head_of c.args.e.op) =
    elim c.if-e-eq1.branch [
      | then-e-eq1 w ↦ simp (eq-eqb _ 1 w.if-e-eq1.true) (rw w.put-is at c.put.ensures)
      | else-e-eq1 w ↦ simp (ne_eqb _ 1 w.if-e-eq1.false) (rw w.put-is at c.put.ensures)
    ]
    in
    writes_then _ _ head (writes_then _ _ (rw c.from.ensures at c.put_field.ensures) (writes_then _ _ (rw c.from-2.ensures at c.put_field-2.ensures) ((rw c.from-3.ensures at c.put_field-3.ensures))))
