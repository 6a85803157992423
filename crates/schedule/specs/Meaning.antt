-- What can be written: numbers up to 65,535, S counts of 1 or more, a count that is that of the events, and a text that is not too long.
use Rattle.std.specs.Prelude.{ℕ, ◌≤◌, ◌≡◌, List, [], ◌∷◌, length}
use Rattle.text.specs.declared.Opening.{Opening}
use Rattle.text.specs.declared.Event.{Event}
use Rattle.text.specs.declared.Event.TheVariants.{Enqueue, Dequeue, Steps}
use Rattle.text.specs.Text.{text_of, longest}

abbrev pub small : ℕ → Type 0
small n = n ≤ 65535

unfoldable pub sound : Event → Type 0
sound (Enqueue l q n) = small l.0 × small q.0 × small n.0
sound (Dequeue l q) = small l.0 × small q.0
sound (Steps count) = small count × (1 ≤ count)

unfoldable pub all_sound : List Event → Type 0
all_sound [] = Unit {0}
all_sound (e ∷ es) = sound e × all_sound es

pub record Writable (o : Opening) (es : List Event) : Type 0 where
  pub levels : small o.levels
  pub queues : small o.queues
  pub nodes : small o.nodes
  pub events : small o.events
  pub counted : length es ≡ o.events
  pub each : all_sound es
  pub short : length (text_of o es) ≤ longest
