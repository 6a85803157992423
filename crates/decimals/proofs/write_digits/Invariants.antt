use Rattle.std.proofs.Common.{◌≡◌, length}
use Rattle.std.proofs.lemmas.List.Edits.{sets}
use Rattle.decimals.specs.Decimals.{digits_of, last_digits}
use Rattle.decimals.proofs.write_digits.Given as goal

abbrev pub invariant-loop-left : goal.invariant-loop-left
invariant-loop-left l =
    (length l.room ≡ length l.initial.room) × (sets l.room l.place (last_digits l.left l.m) ≡ sets l.initial.room l.place (digits_of l.n))
