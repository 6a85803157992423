-- What a task's text says: sizes and at most six operations. It is a schedule's text, in which a line of steps is as wrong as one that
-- begins with no letter of an event.
use Rattle.std.specs.Prelude.{ℕ, cond, List, [], ◌∷◌, ◌++◌, leb, Result, Ok, Err}
use Rattle.std.proofs.lemmas.List.Edits.{sets}
use Rattle.text.specs.declared.Opening.{Opening}
use Rattle.text.specs.declared.Event.{Event}
use Rattle.text.specs.declared.Event.TheVariants.{Enqueue, Dequeue, Steps}
use Rattle.text.specs.Answer.{Answer, gives, refuses, onto}
use Rattle.text.specs.Reading.{wrong_at, sizes_reading, event_reading, end_reading}
use Rattle.schedule.specs.Whole.{events_by}
use Rattle.tasks.specs.declared.TaskError.{TaskError}
use Rattle.tasks.specs.declared.TaskError.TheVariants.{Line, TooMany}

-- ---- the reading, from the top

abbrev pub operation_of : List ℕ → ℕ → Event → ℕ → Answer (Event × ℕ)
operation_of text place (Enqueue l q n) next = gives (Enqueue l q n, next)
operation_of text place (Dequeue l q) next = gives (Dequeue l q, next)
operation_of text place (Steps count) next = wrong_at text place

-- the event at a place, which must be an operation, with the next place
unfoldable pub operation_reading : List ℕ → ℕ → Answer (Event × ℕ)
operation_reading text place = onto (event_reading text place) λ e. operation_of text place e.0 e.1

-- so many operations, with the place after them
abbrev pub operations_reading : ℕ → List ℕ → ℕ → Answer (List Event × ℕ)
operations_reading = events_by operation_reading

-- a text that is wrong is refused with 13 and the first wrong line; then more than six operations with 14
unfoldable pub task_reading : List ℕ → Answer (Opening × List Event)
task_reading text =
    onto (sizes_reading text) λ o.
    onto (operations_reading o.0.events text o.1) λ es.
    onto (end_reading text es.1) λ _.
    cond (leb o.0.events 6) (gives (o.0, es.0)) (refuses 14 [])

-- ---- the operations as words, four each: op (1 enqueue, 2 dequeue), level, queue, node (0 for a dequeue)

unfoldable pub words_of : Event → List ℕ
words_of (Enqueue l q n) = 1 ∷ l.0 ∷ q.0 ∷ n.0 ∷ []
words_of (Dequeue l q) = 2 ∷ l.0 ∷ q.0 ∷ 0 ∷ []
words_of (Steps count) = []

unfoldable pub all_words : List Event → List ℕ
all_words [] = []
all_words (e ∷ es) = words_of e ++ all_words es

-- ---- the call

unfoldable pub task_says : Result Opening TaskError → Answer Opening
task_says (Ok o) = gives o
task_says (Err (Line bad)) = refuses 13 (bad.0 ∷ [])
task_says (Err TooMany) = refuses 14 []

-- the words of the operations stand from the start on; where the task is refused, all stays
unfoldable pub laid : List ℕ → Answer (Opening × List Event) → Answer Opening × List ℕ
laid ops (gives x) = (gives x.0, sets ops 0 (all_words x.1))
laid ops (refuses number values) = (refuses number values, ops)

unfoldable pub task_of : List ℕ → List ℕ → Answer Opening × List ℕ
task_of text ops = laid ops (task_reading text)
