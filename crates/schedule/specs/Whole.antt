-- The reading of a whole text: the sizes, as many events as their count says, and nothing after.
use Rattle.std.specs.Prelude.{ℕ, zero, suc, List, [], ◌∷◌}
use Rattle.text.specs.declared.Opening.{Opening}
use Rattle.text.specs.declared.Event.{Event}
use Rattle.text.specs.Answer.{Answer, gives, onto}
use Rattle.text.specs.Reading.{sizes_reading, event_reading, end_reading}

-- so many events, each read as `event` reads it at a place, with the place after them
unfoldable pub events_by : (List ℕ → ℕ → Answer (Event × ℕ)) → ℕ → List ℕ → ℕ → Answer (List Event × ℕ)
events_by event zero text place = gives ([], place)
events_by event (suc k) text place =
    onto (event text place) λ e.
    onto (events_by event k text e.1) λ es.
    gives (e.0 ∷ es.0, es.1)

-- so many events, and then the end
unfoldable pub rest_by : (List ℕ → ℕ → Answer (Event × ℕ)) → ℕ → List ℕ → ℕ → Answer (Unit {0})
rest_by event count text place = onto (events_by event count text place) λ es. end_reading text es.1

-- the sizes, where the whole text is right
unfoldable pub check_by : (List ℕ → ℕ → Answer (Event × ℕ)) → List ℕ → Answer (Opening × ℕ)
check_by event text = onto (sizes_reading text) λ o. onto (rest_by event o.0.events text o.1) λ _. gives o

-- the same of a schedule, which may have every event
abbrev pub events_reading : ℕ → List ℕ → ℕ → Answer (List Event × ℕ)
events_reading = events_by event_reading

abbrev pub rest_reading : ℕ → List ℕ → ℕ → Answer (Unit {0})
rest_reading = rest_by event_reading

abbrev pub check_reading : List ℕ → Answer (Opening × ℕ)
check_reading = check_by event_reading

unfoldable pub schedule_reading : List ℕ → Answer (Opening × List Event)
schedule_reading text =
    onto (sizes_reading text) λ o.
    onto (events_reading o.0.events text o.1) λ es.
    onto (end_reading text es.1) λ _.
    gives (o.0, es.0)
