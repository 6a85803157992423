-- What the calls answer in document 01's words and numbers, and which of these each answer of the code is.
use Rattle.std.specs.Prelude.{ℕ, Option, Some, None, Result, Ok, Err}
use Rattle.answers.specs.declared.End.{End}
use Rattle.answers.specs.declared.Ran.{Ran}
use Rattle.answers.specs.declared.Why as codes
use Rattle.answers.specs.declared.Why.TheVariants as code
use Rattle.answers.specs.declared.Refusal.{Refusal}
use Rattle.answers.specs.declared.Refusal.TheVariants.{
  Table,
  Sizes,
  Level,
  Queue,
  Node,
  Busy,
  InUse,
  Dequeued,
  Idle,
  Damaged,
  Unquiet,
  Room,
  Many,
}

-- a refusal's number, or what is answered
pub data Said (A : Type 0) : Type 0 where
  refused : ℕ → Said A
  says : A → Said A

-- a step goes on, or ends an operation: its op, level, queue, node (0 for empty) and steps
pub data Step : Type 0 where
  going_on : Step
  ended : End → Step

-- why a run stopped: an operation ended, the budget is spent, nothing runs, or refusal 10 came
pub data Why : Type 0 where
  an_end : End → Why
  spent : Why
  nothing_runs : Why
  refusal_10 : Why

-- a run's steps taken, and why it stopped
pub data Run : Type 0 where
  after : ℕ → Why → Run

-- the refusals' numbers
abbrev pub number : Refusal → ℕ
number Table = 1
number Sizes = 2
number Level = 3
number Queue = 4
number Node = 5
number Busy = 6
number InUse = 7
number Dequeued = 8
number Idle = 9
number Damaged = 10
number Unquiet = 11
number Room = 12
number Many = 14

-- of a call that answers what its definition says: a begin, a question or a count
abbrev pub answer_says : {A : Type 0} → Result A Refusal → Said A
answer_says (Ok x) = says x
answer_says (Err r) = refused (number r)

-- the number of the refusal, and 0 where there is none
abbrev pub refusal_number : Result Unit Refusal → ℕ
refusal_number (Ok x) = 0
refusal_number (Err r) = number r

abbrev pub step_says : Result (Option End) Refusal → Said Step
step_says (Ok None) = says going_on
step_says (Ok (Some e)) = says (ended e)
step_says (Err r) = refused (number r)

abbrev pub why_says : codes.Why → Why
why_says (code.Ended e) = an_end e
why_says code.Spent = spent
why_says code.Idle = nothing_runs
why_says code.Damaged = refusal_10

abbrev pub ran_says : Ran → Run
ran_says r = after r.steps (why_says r.why)

abbrev pub run_says : Result Ran Refusal → Said Run
run_says (Ok r) = says (ran_says r)
run_says (Err r) = refused (number r)
