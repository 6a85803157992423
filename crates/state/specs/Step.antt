-- One step over memory and frames: the row of the step table for the frame that is served, its access made, and what follows it.
use Rattle.std.specs.Prelude.{ℕ}
use Rattle.words.specs.declared.Word.TheVariants.{Next, Use}
use Rattle.words.specs.declared.Frame.{Frame}
use Rattle.words.specs.Layout.{level, no_frame}
use Rattle.table.specs.Points.{point_of}
use Rattle.table.specs.Frames.{counted}
use Rattle.table.specs.Table.{Row, loads, stores, frees, nothing, row}
use Rattle.table.specs.declared.After.{After}
use Rattle.table.specs.declared.After.TheVariants.{Go, Done}
use Rattle.state.specs.Mem.{Mem, look, upd, put}

-- the memory after a row's access
abbrev pub mem_after : Mem → Row → Mem
mem_after M (loads w after) = M
mem_after M (stores w v after) = upd M w v
mem_after M (frees n after) = upd (upd M (Next n) 0) (Use n) 0
mem_after M nothing = M

-- what follows the access; f is the frame
abbrev pub then : Mem → Row → Frame → After
then M (loads w after) f = after (look M w)
then M (stores w v after) f = after
then M (frees n after) f = after
then M nothing f = Go f

-- the frame as it becomes: none where the operation ends
abbrev pub frame_after : After → Frame
frame_after (Go f) = f
frame_after (Done n) = no_frame

-- the row of a frame at level l, of so many levels: the frame counts its step first
abbrev pub row_of : ℕ → ℕ → Frame → Row
row_of levels l f = row (point_of (counted f).point) (counted f) (level l) (level levels)

-- memory and frames, and a step of the frame at level l
pub record State : Type 0 where
  pub mem : Mem
  pub frames : ℕ → Frame

abbrev pub stepped : ℕ → ℕ → State → State
stepped levels l s =
    let r = row_of levels l (s.frames l) in
    record {
      mem = mem_after s.mem r;
      frames = put s.frames l (frame_after (then s.mem r (counted (s.frames l))));
    }
