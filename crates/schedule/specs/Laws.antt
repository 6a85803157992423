-- What the proofs of reading a whole text cite.
use Rattle.std.specs.Prelude.{ℕ, zero, suc, ◌-◌, ◌≤◌, ◌<◌, ◌≡◌, refl, List}
use Rattle.std.proofs.Common.{◌∙◌, arith, sub-one}
use Rattle.text.specs.declared.Event.{Event}
use Rattle.text.specs.Answer.{Answer, gives, refuses, onto}
use Rattle.text.specs.Reading.{end_reading}
use Rattle.text.specs.Laws.{onto_onto}
use Rattle.schedule.specs.Whole.{events_by, rest_by}

-- one event more
pub rest_more : (event : List ℕ → ℕ → Answer (Event × ℕ)) (k : ℕ) (text : List ℕ) (place : ℕ) → 0 < k
    → rest_by event k text place ≡ onto (event text place) (λ e. rest_by event (k - 1) text e.1)
unfolding rest_by events_by
rest_more event zero text place h = absurd (omega arith)
rest_more event (suc k) text place h = simp (sub-one, onto_onto)

pub rest_none : (event : List ℕ → ℕ → Answer (Event × ℕ)) (k : ℕ) (text : List ℕ) (place : ℕ) → k ≤ 0
    → rest_by event k text place ≡ end_reading text place
unfolding rest_by events_by
rest_none event zero text place h = refl
rest_none event (suc k) text place h = absurd (omega arith)

-- the same, by whether the first of them can be read
pub rest_goes_on : (event : List ℕ → ℕ → Answer (Event × ℕ)) (j k : ℕ) (text : List ℕ) (place : ℕ) (e : Event × ℕ) → j ≡ suc k
    → event text place ≡ gives e → rest_by event j text place ≡ rest_by event k text e.1
unfolding rest_by events_by
rest_goes_on event j k text place e f h = rw f (simp (h, onto_onto))

pub rest_stops : (event : List ℕ → ℕ → Answer (Event × ℕ)) (k : ℕ) (text : List ℕ) (place n : ℕ) (v : List ℕ) → 0 < k
    → event text place ≡ refuses n v → rest_by event k text place ≡ refuses n v
rest_stops event k text place n v p h = rest_more event k text place p ∙ simp h

pub ruleset rests = (rest_none, rest_goes_on, rest_stops)
