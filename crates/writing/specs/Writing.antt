-- The writing of a schedule that is given as words: L, Q, N, the count of events, and then each event.
use Rattle.std.specs.Prelude.{ℕ, zero, suc, ◌+◌, List, [], ◌∷◌, ◌++◌, Bool, cond, ◌&&◌, length, get_or, drop, leb, eqb, Option, Some, None, Result, Ok, Err}
use Rattle.words.specs.Layout.{level, queue, node}
use Rattle.text.specs.declared.Opening.{Opening}
use Rattle.text.specs.declared.Event.{Event}
use Rattle.text.specs.declared.Event.TheVariants.{Enqueue, Dequeue, Steps}
use Rattle.text.specs.Text.{text_of, longest}
use Rattle.text.specs.Answer.{Answer, gives, refuses, onto}
use Rattle.writing.specs.declared.WriteError.{WriteError}
use Rattle.writing.specs.declared.WriteError.TheVariants.{Line, NoRoom}

-- a schedule's words: an event is 1 level queue node, 2 level queue, or 3 count
unfoldable pub event_words : Event → List ℕ
event_words (Enqueue l q n) = 1 ∷ l.0 ∷ q.0 ∷ n.0 ∷ []
event_words (Dequeue l q) = 2 ∷ l.0 ∷ q.0 ∷ []
event_words (Steps count) = 3 ∷ count ∷ []

unfoldable pub events_words : List Event → List ℕ
events_words [] = []
events_words (e ∷ es) = event_words e ++ events_words es

unfoldable pub words_of : Opening → List Event → List ℕ
words_of o es = o.levels ∷ o.queues ∷ o.nodes ∷ o.events ∷ events_words es

-- the words at a place are n words of this kind
unfoldable pub is_kind : List ℕ → ℕ → ℕ → ℕ → Bool
is_kind words at kind n = leb (at + n) (length words) && eqb (get_or words at 0) kind

-- the event at a place, S with a count of 1 or more, and the place after its words
unfoldable pub event_in : List ℕ → ℕ → Option (Event × ℕ)
event_in words at =
    cond (is_kind words at 1 4)
    (Some (Enqueue (level (get_or words (at + 1) 0)) (queue (get_or words (at + 2) 0)) (node (get_or words (at + 3) 0)), at + 4))
    (cond (is_kind words at 2 3)
    (Some (Dequeue (level (get_or words (at + 1) 0)) (queue (get_or words (at + 2) 0)), at + 3))
    (cond (is_kind words at 3 2 && leb 1 (get_or words (at + 1) 0)) (Some (Steps (get_or words (at + 1) 0), at + 2)) None))

-- what is given has no text: the line that cannot be written
unfoldable pub no_text : {A : Type 0} → ℕ → Answer A
no_text line = refuses 13 (line ∷ [])

unfoldable pub found : ℕ → Option (Event × ℕ) → Answer (Event × ℕ)
found line (Some e) = gives e
found line None = no_text line

-- so many events, the first of them on this line
unfoldable pub events_in : ℕ → ℕ → List ℕ → ℕ → Answer (List Event)
events_in zero line words at = gives []
events_in (suc k) line words at =
    onto (found line (event_in words at)) λ e.
    onto (events_in k (suc line) words e.1) λ es.
    gives (e.0 ∷ es)

abbrev pub opening_in : List ℕ → Opening
opening_in words = record { levels = get_or words 0 0; queues = get_or words 1 0; nodes = get_or words 2 0; events = get_or words 3 0 }

-- L, Q, N and the count stand on lines 2 to 5, the events from line 6 on; words past the events are not looked at
unfoldable pub schedule_in : List ℕ → Answer (Opening × List Event)
schedule_in words =
    cond (leb 4 (length words))
    (onto (events_in (opening_in words).events 6 words 4) λ es. gives (opening_in words, es))
    (no_text (length words + 2))

-- a text over 64 KiB is refused at line 0
unfoldable pub fitting : List ℕ → Answer (List ℕ)
fitting text = cond (leb (length text) longest) (gives text) (no_text 0)

unfoldable pub text_in : List ℕ → Answer (List ℕ)
text_in words = onto (schedule_in words) λ s. fitting (text_of s.0 s.1)

-- the answer, and the room afterwards: the text and nothing past it
unfoldable pub into_room : List ℕ → Answer (List ℕ) → Answer ℕ × List ℕ
into_room room (gives text) =
    cond (leb (length text) (length room)) (gives (length text), text ++ drop (length text) room) (refuses 12 [], room)
into_room room (refuses number values) = (refuses number values, room)

unfoldable pub writing : List ℕ → List ℕ → Answer ℕ × List ℕ
writing words room = into_room room (text_in words)

-- the number and values of each case of an answer
unfoldable pub written_answer : Result ℕ WriteError → Answer ℕ
written_answer (Ok n) = gives n
written_answer (Err (Line bad)) = refuses 13 (bad.0 ∷ [])
written_answer (Err NoRoom) = refuses 12 []
