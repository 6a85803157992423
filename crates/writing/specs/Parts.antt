-- What the parts of the writing promise each other.
use Rattle.std.specs.Prelude.{ℕ, zero, suc, ◌+◌, List, [], ◌++◌, length, Option, Some, None}
use Rattle.text.specs.declared.Event.{Event}
use Rattle.text.specs.Text.{opening_text, event_text, events_text}
use Rattle.text.specs.Answer.{Answer, gives, onto}
use Rattle.writing.specs.Writing.{event_in, opening_in, events_in, text_in}

-- the length of a text that starts with so many bytes and has so many events after them
unfoldable pub lengths_in : ℕ → ℕ → ℕ → List ℕ → ℕ → Answer ℕ
lengths_in start k line words at = onto (events_in k line words at) λ es. gives (start + length (events_text es))

-- the lines of so many events, up to the first that has none
abbrev pub first_line : Option (Event × ℕ) → (ℕ → List ℕ) → List ℕ
first_line (Some e) others = event_text e.0 ++ others e.1
first_line None others = []

unfoldable pub lines_in : ℕ → List ℕ → ℕ → List ℕ
lines_in zero words at = []
lines_in (suc k) words at = first_line (event_in words at) (lines_in k words)

unfoldable pub whole_text : List ℕ → List ℕ
whole_text words = opening_text (opening_in words) ++ lines_in (opening_in words).events words 4

-- the length of the text
unfoldable pub measuring : List ℕ → Answer ℕ
measuring words = onto (text_in words) λ t. gives (length t)
