-- A step of the served frame, held beside the table: what it does there, and the step that it is once the frame is put back.
use Rattle.std.specs.Prelude.{ℕ, zero, suc, ◌+◌, List, cond, ltb, Option, Some, None}
use Rattle.words.specs.declared.Level.{Level}
use Rattle.words.specs.declared.Sizes.{Sizes}
use Rattle.words.specs.declared.Frame.{Frame}
use Rattle.words.specs.Layout.{level, put_frame, no_frame}
use Rattle.answers.specs.declared.End.{End}
use Rattle.answers.specs.Said.{Said, refused, says, Step, going_on, ended, Run, after, an_end, spent, nothing_runs, refusal_10}
use Rattle.table.specs.Points.{point_of}
use Rattle.table.specs.Frames.{frame}
use Rattle.table.specs.Table.{row}
use Rattle.table.specs.Turn.{turned}
use Rattle.table.specs.declared.After.{After}
use Rattle.table.specs.declared.After.TheVariants.{Go, Done}
use Rattle.steps.specs.Step.{Out, sound, end_of}

-- what a step leaves of the frame
pub data Held : Type 0 where
  Going : Frame → Held
  Ended : End → Held
  Damaged : Held

unfoldable pub followed : Level → Frame → Option After → Held
followed l f (Some (Go g)) = Going g
followed l f (Some (Done n)) = Ended (end_of l f n)
followed l f None = Damaged

abbrev pub follow : Level → Frame → Option After × List ℕ → Held × List ℕ
follow l f x = (followed l f x.0, x.1)

-- the access of the frame's row
abbrev pub turn_of : Sizes → List ℕ → Level → Frame → Option After × List ℕ
turn_of s t l f = turned s t (row (point_of f.point) f l (level s.levels))

-- f has this step counted
unfoldable pub held : Sizes → List ℕ → Level → Frame → Held × List ℕ
held s t l f = cond (sound s f) (follow l f (turn_of s t l f)) (Damaged, t)

-- f is the frame before the step
unfoldable pub back : Sizes → Level → Frame → Held → List ℕ → Out
back s l f (Going g) t = (says going_on, put_frame s t l g)
back s l f (Ended e) t = (says (ended e), put_frame s t l no_frame)
back s l f Damaged t = (refused 10, put_frame s t l f)

-- what a run of one step says of its step
abbrev pub step_of_run : Said Run → Said Step
step_of_run (refused r) = refused r
step_of_run (says (after n (an_end e))) = says (ended e)
step_of_run (says (after n spent)) = says going_on
step_of_run (says (after n nothing_runs)) = refused 9
step_of_run (says (after n refusal_10)) = refused 10

-- ---- a frame whose steps are counted at the end of a run

abbrev pub set_steps : ℕ → Frame → Frame
set_steps v f = frame f.op f.point f.queue f.node f.k f.p f.c f.a f.r f.m v

-- the steps word after n steps more, each counted as in a step; 65,535 stays
unfoldable pub later : ℕ → ℕ → ℕ
later a zero = a
later a (suc n) = cond (ltb (later a n) 65535) (later a n + 1) (later a n)
