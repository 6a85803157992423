-- What the last read brought stands after what stood there before.
use Rattle.std.proofs.Common.{rules, sym, ap, subst, ◌∙◌, take, drop, ◌++◌}
use lib.Seq.{take-add}
use Rattle.std.specs.Io.KnownBytes.{Consumes}
use Rattle.std.proofs.KnownBytes.{Consumes-trans}
use Rattle.streams.proofs.fill.Goals as goal

pub loop-done-preserved : goal.loop-done-preserved
loop-done-preserved g c =
    let done = c.loop-done.done in
    let n = c.in_ok-n.n in
    let room = c.read_on.new.room in
    let read = c.in_ok-n.ensures in
    let joined = ap (λ l. l ++ take n (drop done room)) (sym read.front) ∙ sym (take-add done n room) in
    (search rules, search rules, subst (Consumes _ _) joined (Consumes-trans _ _ _ _ _ c.loop-done.invariant.2 read.bytes))
