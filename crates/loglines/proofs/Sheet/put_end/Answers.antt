use Rattle.std.proofs.Common.{◌≡◌, ◌++◌, arith}
use Rattle.std.proofs.lemmas.Bool.Decides.{nat_tests}
use Rattle.answers.specs.Most.{enqueue_most}
use Rattle.decimals.specs.Decimals.{field_of}
use Rattle.text.specs.Text.{lf, space}
use Rattle.loglines.specs.Lines.{operation_text, end_line, bound_line, line_of}
use Rattle.loglines.specs.Laws.{writes_then}
use Rattle.loglines.proofs.Sheet.put_end.Goals as goal

pub returns-in-Some : goal.returns-in-Some
unfolding bound_line
returns-in-Some c =
    let e = c.args.e in
    let bounded : line_of c.args.bound_nodes e
    ≡ operation_text e ++ (field_of e.steps space ++ field_of (enqueue_most e.level.0 c.in-Some.nodes) lf)
    = grind (arith, nat_tests) in
    let steps = rw c.from.ensures at c.put_field.ensures in
    let bound = rw c.enqueue_most.ensures at c.put_field-in-Some.ensures in
    rw bounded (writes_then _ _ c.put_operation.ensures (writes_then _ _ steps bound))

pub returns-in_default : goal.returns-in_default
unfolding bound_line
returns-in_default c =
    let plain : line_of c.args.bound_nodes c.args.e ≡ end_line c.args.e = grind (arith, nat_tests) in
    let steps = rw c.from-in_default.ensures at c.put_field-in_default.ensures in
    rw plain (unfold end_line in writes_then _ _ c.put_operation.ensures steps)
