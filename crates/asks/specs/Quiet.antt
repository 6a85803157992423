-- Whether a queue is quiet.
use Rattle.std.specs.Prelude.{ℕ, List, Bool, cond, not, Option, Some, None}
use Rattle.words.specs.declared.Sizes.{Sizes}
use Rattle.words.specs.declared.Queue.{Queue}
use Rattle.words.specs.Layout.{measured}
use Rattle.answers.specs.Said.{Said, refused, says}
use Rattle.conditions.specs.Conditions.{no_queue, unquiet}

unfoldable pub quiet_measured : List ℕ → Queue → Option Sizes → Said Bool
quiet_measured t q None = refused 1
quiet_measured t q (Some s) = cond (no_queue s q) (refused 4) (says (not (unquiet s t q)))

-- refusals 1, 4; yes exactly when no frame with op not 0 has this queue
unfoldable pub quiet_of : List ℕ → Queue → Said Bool
quiet_of t q = quiet_measured t q (measured t)
