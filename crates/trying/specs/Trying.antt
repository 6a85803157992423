-- What is printed for a task's text: the texts of its schedules one after another, or their number and their outcomes; or one line that
-- says why there are none.
use Rattle.std.specs.Prelude.{ℕ, Bool, false, Option, Some, None, Result, Ok, Err, cond, List, [], ◌∷◌, replicate, eqb}
use Rattle.answers.specs.Said.{Said, refused, says}
use Rattle.text.specs.declared.Opening.{Opening}
use Rattle.text.specs.declared.Event.{Event}
use Rattle.text.specs.Answer as answer
use Rattle.loglines.specs.Ink.{ink}
use Rattle.loglines.specs.Lines.{text_line, refusal_line}
use Rattle.tasks.specs.Tasks.{task_reading, all_words}
use Rattle.outcomes.specs.Lines.{counted_text}
use Rattle.tries.specs.Tries.{tries_of, tally_of}
use Rattle.trying.specs.declared.Answer.{Answer}
use Rattle.trying.specs.declared.Asked.{Asked}
use Rattle.trying.specs.declared.Asked.TheVariants.{Schedules, Outcomes}
use Rattle.trying.specs.declared.NoRoom.{NoRoom}

-- how many bytes at the room's start are the answer, and whether there are more schedules than these; 12 where the room is too small
abbrev pub Told : Type 0
Told = Said (ℕ × Bool) × List ℕ

abbrev pub answer_says : Result Answer NoRoom → Said (ℕ × Bool)
answer_says (Ok a) = says (a.bytes, a.more)
answer_says (Err e) = refused 12

-- ---- bytes at the room's start

abbrev pub pen_says : Option ℕ → Said (ℕ × Bool)
pen_says (Some n) = says (n, false)
pen_says None = refused 12

unfoldable pub laid : List ℕ → List ℕ → Told
laid bytes room = (pen_says (ink (Some 0, room) bytes).0, (ink (Some 0, room) bytes).1)

-- `R 0 number`
unfoldable pub refused_told : ℕ → List ℕ → Told
refused_told number room = cond (eqb number 12) (refused 12, room) (laid (refusal_line 0 number) room)

-- what is told of a task; a text that is wrong has a line where it is: `T line`
unfoldable pub read_told : (Opening → List ℕ → Told) → List ℕ → answer.Answer (Opening × List Event) → Told
read_told told room (answer.gives x) = told x.0 (all_words x.1)
read_told told room (answer.refuses number []) = refused_told number room
read_told told room (answer.refuses number (line ∷ values)) = laid (text_line line) room

abbrev pub task_told : (Opening → List ℕ → Told) → List ℕ → List ℕ → Told
task_told told text room = read_told told room (task_reading text)

-- ---- the schedules

unfoldable pub tried_told : Said (ℕ × (ℕ × Bool)) × List ℕ → Told
tried_told (says x, room) = (says x.1, room)
tried_told (refused number, room) = refused_told number room

abbrev pub list_told : ℕ → List ℕ → Opening → List ℕ → Told
list_told bound room o ws = tried_told (tries_of o.levels o.queues o.nodes ws bound room)

abbrev pub schedules_told : List ℕ → ℕ → List ℕ → Told
schedules_told text bound room = task_told (list_told bound room) text room

-- ---- their number and their outcomes, counted from tallies of zeros

unfoldable pub number_told : ℕ → List ℕ → Said ℕ × List ℕ → Told
number_told queues room (says n, ts) = laid (counted_text n ts queues) room
number_told queues room (refused number, ts) = refused_told number room

abbrev pub count_told : List ℕ → Opening → List ℕ → Told
count_told room o ws = number_told o.queues room (tally_of o.levels o.queues o.nodes ws (replicate 5122 0))

abbrev pub outcomes_told : List ℕ → List ℕ → Told
outcomes_told text room = task_told (count_told room) text room

-- ---- either, as it is asked

abbrev pub asked_of : Asked → List ℕ → Opening → List ℕ → Told
asked_of (Schedules bound) room = list_told bound room
asked_of Outcomes room = count_told room

abbrev pub asked_told : Asked → List ℕ → List ℕ → Told
asked_told asked text room = task_told (asked_of asked room) text room
