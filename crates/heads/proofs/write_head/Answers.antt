use Rattle.std.proofs.Common.{refl, arith}
use Rattle.std.proofs.lemmas.List.Edits.{sets-eq}
use Rattle.std.proofs.Common.{drop-drop, append_assoc}
use Rattle.heads.proofs.write_head.Goals as goal

pub returns : goal.returns
returns c =
    let e = c.copy_from_slice.ensures.after in
    let s = sets-eq c.args.head.now c.args.room.now c.args.place (omega arith) in
    record { next = refl; is = grind (arith, s, e, drop-drop, append_assoc) }
