-- The reading of a schedule's text at a place.
use Rattle.std.specs.Prelude.{ℕ, ◌+◌, ◌-◌, List, [], ◌∷◌, Bool, cond, ◌&&◌, ◌||◌, length, get_or, take, leb, eqb, Option, Some, None, Result, Ok, Err, ok_or}
use Rattle.words.specs.Layout.{level, queue, node}
use Rattle.decimals.specs.Decimals.{field_at}
use Rattle.heads.specs.Heads.{stands_at}
use Rattle.text.specs.declared.Opening.{Opening}
use Rattle.text.specs.declared.Event.{Event}
use Rattle.text.specs.declared.Event.TheVariants.{Enqueue, Dequeue, Steps}
use Rattle.text.specs.declared.BadLine.{BadLine}
use Rattle.text.specs.Text.{lf, space, head_sizes, head_e, head_d, head_s, longest}
use Rattle.text.specs.Answer.{Answer, gives, refuses}

-- how many lines end in these bytes
unfoldable pub lfs : List ℕ → ℕ
lfs [] = 0
lfs (b ∷ s) = cond (eqb b lf) 1 0 + lfs s

-- lines count from 1 at the text's start; a text that is too long is refused at line 0
unfoldable pub line_at : List ℕ → ℕ → ℕ
line_at text place = cond (leb (length text) longest) (1 + lfs (take place text)) 0

-- a place at which a line starts, in a text that is not too long
unfoldable pub line_starts : List ℕ → ℕ → Bool
line_starts text place = leb (length text) longest && (eqb place 0 || eqb (get_or text (place - 1) 0) lf)

-- the text is wrong at the line of a place
abbrev pub wrong_at : {A : Type 0} → List ℕ → ℕ → Answer A
wrong_at text place = refuses 13 (line_at text place ∷ [])

-- what follows a field, with its number and the place after it; or what stands in for it where there is no such field
abbrev pub with : {A : Type 0} → A → Option (ℕ × ℕ) → (ℕ → ℕ → A) → A
with other (Some x) f = f x.0 x.1
with other None f = other

unfoldable pub enqueue_in : List ℕ → ℕ → Option (Event × ℕ)
enqueue_in text at =
    with None (field_at space text at) λ l p.
    with None (field_at space text p) λ q p.
    with None (field_at lf text p) λ n p.
    Some (Enqueue (level l) (queue q) (node n), p)

unfoldable pub dequeue_in : List ℕ → ℕ → Option (Event × ℕ)
dequeue_in text at =
    with None (field_at space text at) λ l p.
    with None (field_at lf text p) λ q p.
    Some (Dequeue (level l) (queue q), p)

-- count 1 or more
unfoldable pub steps_in : List ℕ → ℕ → Option (Event × ℕ)
steps_in text at = with None (field_at lf text at) λ count p. cond (leb 1 count) (Some (Steps count, p)) None

unfoldable pub event_in : List ℕ → ℕ → Option (Event × ℕ)
event_in text place =
    cond (stands_at head_e text place) (enqueue_in text (place + 2))
    (cond (stands_at head_d text place) (dequeue_in text (place + 2))
    (cond (stands_at head_s text place) (steps_in text (place + 2)) None))

-- what reading the sizes, an event and the end answers: what is read, with the next place
abbrev pub number_line : {A : Type 0} → List ℕ → ℕ → (ℕ → ℕ → Answer A) → Answer A
number_line text place f = with (wrong_at text place) (field_at lf text place) f

-- a number and the next place, or the line of a place where none stands
unfoldable pub number_at : List ℕ → ℕ → Result (ℕ × ℕ) BadLine
number_at text place = ok_or (field_at lf text place) (record { 0 = line_at text place })

unfoldable pub sizes_reading : List ℕ → Answer (Opening × ℕ)
sizes_reading text =
    cond (line_starts text 0 && stands_at head_sizes text 0)
    (number_line text 2 λ l p.
    number_line text p λ q p.
    number_line text p λ n p.
    number_line text p λ e p.
    gives (record { levels = l; queues = q; nodes = n; events = e }, p))
    (wrong_at text 0)

abbrev pub found : List ℕ → ℕ → Option (Event × ℕ) → Answer (Event × ℕ)
found text place (Some e) = gives e
found text place None = wrong_at text place

unfoldable pub event_reading : List ℕ → ℕ → Answer (Event × ℕ)
event_reading text place = cond (line_starts text place) (found text place (event_in text place)) (wrong_at text place)

unfoldable pub end_reading : List ℕ → ℕ → Answer (Unit {0})
end_reading text place = cond (line_starts text place && eqb place (length text)) (gives tt) (wrong_at text place)

-- the number and values of each case of an answer
unfoldable pub line_answer : {A : Type 0} → Result A BadLine → Answer A
line_answer (Ok x) = gives x
line_answer (Err bad) = refuses 13 (bad.0 ∷ [])
