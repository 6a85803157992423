use native.Mathlib.Omega.{arith}
use mathlib.Core.Path.{◌≡◌, refl, sym, ◌∙◌}
use borrow.Author.Rules.{rules}
use Rattle.search.specs.Walk.{is_full}
use Rattle.tries.specs.Listed.{unwritten, measured_short}
use Rattle.tries.specs.Ample.{ample}
use Rattle.tries.proofs.is_short.Goals as goal

pub returns-then-request-room : goal.returns-then-request-room
returns-then-request-room c = (sym (ample c.args.request.asked _ c.args.request.fits.1 _ (omega arith)), refl)

pub returns : goal.returns
returns c =
    let asked = c.args.request.asked in
    let full : c.eq.result ≡ is_full c.list_all-measured.result.stop = search rules in
    (full ∙ measured_short asked _ _ _ _ _ _ c.list_all-measured.ensures, unwritten asked _ _ _ _ _ _ c.list_all-measured.ensures)
