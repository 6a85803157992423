-- One step: what it answers, and the table afterwards.
use Rattle.std.specs.Prelude.{ℕ, zero, suc, List, Bool, cond, not, ◌&&◌, leb, eqb, Option, Some, None}
use Rattle.words.specs.declared.Level.{Level}
use Rattle.words.specs.declared.Node.{Node}
use Rattle.words.specs.declared.Sizes.{Sizes}
use Rattle.words.specs.declared.Frame.{Frame}
use Rattle.words.specs.declared.Word.TheVariants.{Next, Use}
use Rattle.words.specs.Layout.{level, within, measured, has, rd, wr, frame_of, put_frame, no_frame}
use Rattle.answers.specs.declared.End.{End}
use Rattle.answers.specs.Said.{Said, refused, says, Step, going_on, ended}
use Rattle.table.specs.Points.{D1, number_of, point_of}
use Rattle.table.specs.Frames.{counted}
use Rattle.table.specs.Table.{Row, loads, stores, frees, nothing, row}
use Rattle.table.specs.declared.After.{After}
use Rattle.table.specs.declared.After.TheVariants.{Go, Done}

-- what is said, and the table afterwards
abbrev pub Out : Type 0
Out = Said Step × List ℕ

-- the highest level below n whose op is not 0
unfoldable pub serving : Sizes → List ℕ → ℕ → Option Level
serving s t zero = None
serving s t (suc n) = cond (eqb (frame_of s t (level n)).op 0) (serving s t n) (Some (level n))

-- op 1 at a D point
unfoldable pub strays : Frame → Bool
strays f = eqb f.op 1 && leb (number_of D1) f.point

-- op is not above 2, for op 1 the point is no D point, and the queue is 1..Q
unfoldable pub sound : Sizes → Frame → Bool
sound s f = leb f.op 2 && not (strays f) && within 1 s.queues f.queue.0

-- what an ending step answers; f has this step counted
abbrev pub end_of : Level → Frame → Node → End
end_of l f n = record { op = f.op; level = l; queue = f.queue; node = n; steps = f.steps }

-- t is the table after the access, f the frame that was stepped: it goes on, or the operation ends and its frame is cleared
unfoldable pub settled : Sizes → List ℕ → Level → Frame → After → Out
settled s t l f (Go g) = (says going_on, put_frame s t l g)
settled s t l f (Done n) = (says (ended (end_of l f n)), put_frame s t l no_frame)

-- the row's one access and what follows, or refusal 10 where its word is not one of the table's
unfoldable pub performed : Sizes → List ℕ → Level → Frame → Row → Out
performed s t l f (loads w after) = cond (has s w) (settled s t l f (after (rd s t w))) (refused 10, t)
performed s t l f (stores w v after) = cond (has s w) (settled s (wr s t w v) l f after) (refused 10, t)
performed s t l f (frees n after) =
    cond (has s (Next n)) (settled s (wr s (wr s t (Next n) 0) (Use n) 0) l f after) (refused 10, t)
performed s t l f nothing = (refused 10, t)

-- a step of this frame at this level
unfoldable pub step_frame : Sizes → List ℕ → Level → Frame → Out
step_frame s t l f =
    cond (sound s f) (performed s t l f (row (point_of f.point) f l (level s.levels))) (refused 10, t)

unfoldable pub step_served : Sizes → List ℕ → Option Level → Out
step_served s t None = (refused 9, t)
step_served s t (Some l) = step_frame s t l (counted (frame_of s t l))

-- a step of a table of these sizes
unfoldable pub step_sized : Sizes → List ℕ → Out
step_sized s t = step_served s t (serving s t s.levels)

unfoldable pub step_measured : List ℕ → Option Sizes → Out
step_measured t None = (refused 1, t)
step_measured t (Some s) = step_sized s t

-- refusals 1, 9, 10
unfoldable pub step_of : List ℕ → Out
step_of t = step_measured t (measured t)
