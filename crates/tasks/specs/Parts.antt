-- The reading in the parts that the functions have.
use Rattle.std.specs.Prelude.{ℕ, zero, suc, List, [], ◌++◌}
use Rattle.text.specs.declared.Opening.{Opening}
use Rattle.text.specs.declared.Event.{Event}
use Rattle.text.specs.Answer.{Answer, gives, refuses}
use Rattle.text.specs.Reading.{event_reading}
use Rattle.schedule.specs.Whole.{rest_by, check_by}
use Rattle.tasks.specs.Tasks.{operation_reading, words_of}

-- so many operations, and then the end
abbrev pub rest_reading : ℕ → List ℕ → ℕ → Answer (Unit {0})
rest_reading = rest_by operation_reading

-- the sizes, where the whole text is right
abbrev pub check_reading : List ℕ → Answer (Opening × ℕ)
check_reading = check_by operation_reading

-- the words of an event that was read, and those that follow
abbrev pub words_then : Answer (Event × ℕ) → (ℕ → List ℕ) → List ℕ
words_then (gives e) f = words_of e.0 ++ f e.1
words_then (refuses number values) f = []

-- the words of so many events from a place on, as far as they can be read
unfoldable pub words_from : ℕ → List ℕ → ℕ → List ℕ
words_from zero text place = []
words_from (suc k) text place = words_then (event_reading text place) (words_from k text)
