use mathlib.Core.Path.{refl}
use Rattle.search.specs.Walk.{entered}
use Rattle.search.proofs.Laws.{emit_closed}
use Rattle.search.proofs.Emits.{emit_bound, emit_on}
use Rattle.search.proofs.Search.emit.Goals as goal

pub returns-then-not-is_open-clause-value : goal.returns-then-not-is_open-clause-value
returns-then-not-is_open-clause-value c = emit_closed _ _ _ _ (cc)

pub returns-then-self-out-clause-value : goal.returns-then-self-out-clause-value
returns-then-self-out-clause-value c = emit_bound _ _ _ _ _ _ (cc) c.if-self-out.true c.close.ensures

pub returns-in-Count-clause-value : goal.returns-in-Count-clause-value
unfolding entered
returns-in-Count-clause-value c = emit_on _ _ _ _ _ _ (cc) c.if-self-out.false c.in-Count.is (rw c.add.ensures refl)

pub returns-in-Tally-clause-value : goal.returns-in-Tally-clause-value
unfolding entered
returns-in-Tally-clause-value c =
    let fits = c.args.self.now.fits in
    let tally_says = c.tally.ensures (record { sized = fits.0; table = c.requires; few = fits.1; whole = fits.2 }) in
    emit_on _ _ _ _ _ _ (cc) c.if-self-out.false c.in-Tally.is (rw (c.add-in-Tally.ensures, tally_says) refl)

pub returns-in-Measure-clause-value : goal.returns-in-Measure-clause-value
returns-in-Measure-clause-value c = emit_on _ _ _ _ _ _ (cc) c.if-self-out.false c.in-Measure.is c.list_text.ensures.value

pub returns-in-Write-clause-value : goal.returns-in-Write-clause-value
returns-in-Write-clause-value c = emit_on _ _ _ _ _ _ (cc) c.if-self-out.false c.in-Write.is c.list_text-in-Write.ensures.value
