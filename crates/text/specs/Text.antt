-- The text of a schedule: lines that end in LF, fields parted by one space, decimal numbers with no leading zero.
use Rattle.std.specs.Prelude.{ℕ, List, [], ◌∷◌, ◌++◌}
use Rattle.decimals.specs.Decimals.{field_of}
use Rattle.text.specs.declared.Opening.{Opening}
use Rattle.text.specs.declared.Event.{Event}
use Rattle.text.specs.declared.Event.TheVariants.{Enqueue, Dequeue, Steps}

abbrev pub lf : ℕ
lf = 10

abbrev pub space : ℕ
space = 32

-- the fixed words: `3` with its LF, and the letters E, D, S with the space after them
abbrev pub head_sizes : List ℕ
head_sizes = 51 ∷ lf ∷ []

abbrev pub head_e : List ℕ
head_e = 69 ∷ space ∷ []

abbrev pub head_d : List ℕ
head_d = 68 ∷ space ∷ []

abbrev pub head_s : List ℕ
head_s = 83 ∷ space ∷ []

-- a line `3`, then L, Q, N on a line each; a count of events
unfoldable pub opening_text : Opening → List ℕ
opening_text o =
    head_sizes ++ (field_of o.levels lf ++ (field_of o.queues lf ++ (field_of o.nodes lf ++ field_of o.events lf)))

-- `E level queue node`, `D level queue`, `S count`
unfoldable pub event_text : Event → List ℕ
event_text (Enqueue l q n) = head_e ++ (field_of l.0 space ++ (field_of q.0 space ++ field_of n.0 lf))
event_text (Dequeue l q) = head_d ++ (field_of l.0 space ++ field_of q.0 lf)
event_text (Steps count) = head_s ++ field_of count lf

unfoldable pub events_text : List Event → List ℕ
events_text [] = []
events_text (e ∷ es) = event_text e ++ events_text es

-- nothing follows the events
unfoldable pub text_of : Opening → List Event → List ℕ
text_of o es = opening_text o ++ events_text es

-- a text goes up to 65,536 bytes
abbrev pub longest : ℕ
longest = 65536
