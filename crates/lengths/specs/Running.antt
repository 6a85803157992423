-- How many operations run, and how many a step ends.
use Rattle.std.specs.Prelude.{ℕ, zero, suc, ◌+◌, List, cond, eqb, Option, Some, None}
use Rattle.words.specs.declared.Sizes.{Sizes}
use Rattle.words.specs.declared.Frame.{Frame}
use Rattle.words.specs.Layout.{level, measured, frame_of}
use Rattle.answers.specs.Said.{Said, refused, says, Step, going_on, ended}

-- 1 for a frame whose op is not 0
unfoldable pub active : Frame → ℕ
active f = cond (eqb f.op 0) 0 1

-- how many levels below n run an operation
unfoldable pub running_below : Sizes → List ℕ → ℕ → ℕ
running_below s t zero = 0
running_below s t (suc n) = active (frame_of s t (level n)) + running_below s t n

unfoldable pub running_measured : List ℕ → Option Sizes → ℕ
running_measured t None = 0
running_measured t (Some s) = running_below s t s.levels

unfoldable pub running : List ℕ → ℕ
running t = running_measured t (measured t)

-- 1 for a step that ends an operation
unfoldable pub ends_in : Said Step → ℕ
ends_in (refused r) = 0
ends_in (says going_on) = 0
ends_in (says (ended e)) = 1
