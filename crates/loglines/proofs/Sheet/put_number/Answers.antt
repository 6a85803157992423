use Rattle.std.proofs.Common.{ℕ, ◌≤◌, List, length, sym, arith, length-take-le}
use lib.Seq.{length-sets}
use Rattle.heads.specs.Put.{Put}
use Rattle.decimals.specs.Decimals.{digits_of}
use Rattle.decimals.specs.Laws.{length_digits, width_top}
use Rattle.loglines.specs.Laws.{digits_put}
use Rattle.loglines.proofs.Sheet.put_number.Goals as goal

few : (n : ℕ) → length (digits_of n) ≤ 5
few n = omega (arith, length_digits n, width_top n)

within : (w n : ℕ) (after room : List ℕ) → Put w after room 0 (digits_of n) → 5 ≤ length room → w ≤ length after
within w n after room p h = rw p.is (simp length-sets (omega (arith, p.next, few n)))

pub write_digits-w-requires : goal.write_digits-w-requires
write_digits-w-requires c = omega (arith, few c.args.n)

pub slice_bounds-digits-end : goal.slice_bounds-digits-end
slice_bounds-digits-end c = within _ _ _ _ c.write_digits-w.ensures (omega arith)

pub slice_bounds-put-end : goal.slice_bounds-put-end
slice_bounds-put-end c = sym (length-take-le _ _ (within _ _ _ _ c.write_digits-w.ensures (omega arith)))

pub returns : goal.returns
returns c = rw (digits_put _ _ _ _ c.write_digits-w.ensures (omega (arith, few c.args.n))) at c.put.ensures
