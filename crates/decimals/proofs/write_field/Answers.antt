use Rattle.std.proofs.Common.{refl}
use Rattle.heads.specs.Laws.{put_after}
use Rattle.decimals.specs.Decimals.{field_of}
use Rattle.decimals.proofs.write_field.Goals as goal

pub returns : goal.returns
unfolding field_of
returns c = put_after (rw c.from.ensures at c.write_digits-at.ensures) (record { next = refl; is = refl })
