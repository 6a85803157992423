use Rattle.std.proofs.Common.{◌≡◌, ◌==◌, ◌∙◌, sym, arith, take, count_by, length-take}
use Rattle.std.proofs.lemmas.List.{take_min}
use Rattle.std.proofs.lemmas.List.Sums.{count_by-le-length}
use Rattle.text.specs.Laws.{lfs_count}
use Rattle.text.specs.Text.{lf}
use Rattle.text.proofs.lines_before.Goals as goal

pub returns : goal.returns
returns c =
    let text = c.args.text.now in
    let lines : c.count_lfs.result ≡ count_by (λ b. b == lf) (take c.args.place text) = rw (← take_min c.args.place text, ← c.min.ensures) c.count_lfs.ensures in
    (lines ∙ sym (lfs_count _), omega (arith, count_by-le-length (λ b. b == lf) (take c.args.place text), length-take c.args.place text))
