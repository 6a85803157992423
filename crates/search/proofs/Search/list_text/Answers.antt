use native.Mathlib.Omega.{arith}
use mathlib.Core.Path.{refl, ap}
use lib.ListN.{length}
use Rattle.search.specs.Walk.{entered}
use Rattle.search.proofs.Emits.{text_is, bytes_are, measured_fits, measured_full, written_fits, written_full, entered_full}
use Rattle.search.proofs.Search.list_text.Goals as goal

pub returns-then-not-has_room-clause-value : goal.returns-then-not-has_room-clause-value
returns-then-not-has_room-clause-value c =
    let sized = c.events_size-s.ensures in
    let bytes = bytes_are c.args.self.now.asked c.args.self.now.ops.now c.args.path _ _ c.opening-o.ensures sized.0 _ _ c.opening_length.ensures.0 sized.1 in
    let fits = c.has_room.ensures.value in
    let no = c.if-not-has_room.true in
    entered_full _ _ _ _ _ _ _ _ (measured_full _ _ c.args.out.now.listed _ _ bytes fits _ no c.close.ensures)
    (written_full _ _ c.args.out.now.listed _ _ bytes fits no)

pub returns-then-not-writes-clause-value : goal.returns-then-not-writes-clause-value
unfolding entered
returns-then-not-writes-clause-value c =
    let sized = c.events_size-s.ensures in
    let bytes = bytes_are c.args.self.now.asked c.args.self.now.ops.now c.args.path _ _ c.opening-o.ensures sized.0 _ _ c.opening_length.ensures.0 sized.1 in
    rw (c.if-not-writes.true, measured_fits _ _ _ _ _ bytes c.has_room.ensures.value _ c.if-not-has_room.false c.add.ensures) refl

pub write_text-requires : goal.write_text-requires
write_text-requires c =
    let sized = c.events_size-s.ensures in
    let text = text_is c.args.self.now.asked c.args.self.now.ops.now c.args.path _ _ c.opening-o.ensures sized.0 in
    let bytes = bytes_are c.args.self.now.asked c.args.self.now.ops.now c.args.path _ _ c.opening-o.ensures sized.0 _ _ c.opening_length.ensures.0 sized.1 in
    omega (arith, c.has_room.ensures.n_bound c.if-not-has_room.false, ap length text, bytes)

pub returns-clause-value : goal.returns-clause-value
unfolding entered
returns-clause-value c =
    let sized = c.events_size-s.ensures in
    let text = text_is c.args.self.now.asked c.args.self.now.ops.now c.args.path _ _ c.opening-o.ensures sized.0 in
    let bytes = bytes_are c.args.self.now.asked c.args.self.now.ops.now c.args.path _ _ c.opening-o.ensures sized.0 _ _ c.opening_length.ensures.0 sized.1 in
    let fits = c.has_room.ensures.value in
    let yes = c.if-not-has_room.false in
    let put = written_fits _ _ _ _ _ bytes fits _ _ _ yes text c.write_text.ensures in
    rw (c.if-not-writes.false, measured_fits _ _ _ _ _ bytes fits _ yes c.add.ensures, put) refl
