-- What runs and what was stepped, read from the calls of a history and what they answered: no table is looked at.
use Rattle.std.specs.Prelude.{ℕ, zero, suc, ◌+◌, List, [], ◌∷◌}
use Rattle.answers.specs.declared.End.{End}
use Rattle.answers.specs.Said.{going_on, ended, Why, after, an_end, spent, nothing_runs, refusal_10}
use Rattle.demand.specs.History.{Event, enqueued, dequeued, stepped, ran, asked, of_call, all}

-- an accepted call began an operation; or it took so many steps; or so many, and with the last of them an operation ended
pub data Effect : Type 0 where
  begins : Effect
  steps : ℕ → Effect
  ends : ℕ → End → Effect

abbrev pub ran_for : ℕ → Why → Effect
ran_for n (an_end e) = ends n e
ran_for n spent = steps n
ran_for n nothing_runs = steps n
ran_for n refusal_10 = steps n

abbrev pub effect : Event → Effect
effect (enqueued l q n) = begins
effect (dequeued l q) = begins
effect (stepped going_on) = steps 1
effect (stepped (ended e)) = ends 1 e
effect (ran budget (after n why)) = ran_for n why
effect asked = steps 0

-- the operations that ended, in order
abbrev pub ends_of : List Event → List End
ends_of es = all (of_call (λ e. e ∷ [])) es

-- ---- moves: a begin is one, and each step is one

abbrev pub moves_by : Effect → ℕ
moves_by begins = 1
moves_by (steps n) = n
moves_by (ends n e) = n

abbrev pub moves : List Event → ℕ
moves [] = 0
moves (e ∷ es) = moves_by (effect e) + moves es

-- the operations that were begun
abbrev pub begun_by : Effect → ℕ
begun_by begins = 1
begun_by (steps n) = 0
begun_by (ends n e) = 0

abbrev pub begun : List Event → ℕ
begun [] = 0
begun (e ∷ es) = begun_by (effect e) + begun es

-- ---- one operation, followed from its begin

-- it runs: so many of the operations begun after it run too, all above it, and so many steps were its own; or it ended with this answer
pub data Course : Type 0 where
  running : ℕ → ℕ → Course
  over : ℕ → End → Course

-- A step serves the highest level that runs. What is begun while an operation runs is begun above it: so a step is its own where none of
-- those begun after it runs, and the operation that ends is the one begun last of those that run.
abbrev pub next : Effect → Course → Course
next begins (running above own) = running (suc above) own
next (steps n) (running zero own) = running zero (own + n)
next (steps n) (running (suc above) own) = running (suc above) own
next (ends n e) (running zero own) = over (own + n) e
next (ends n e) (running (suc above) own) = running above own
next begins (over own e) = over own e
next (steps n) (over own e) = over own e
next (ends n f) (over own e) = over own e

abbrev pub course : List Event → Course → Course
course [] c = c
course (e ∷ es) c = course es (next (effect e) c)

-- after the calls that followed its begin
abbrev pub since : List Event → Course
since es = course es (running 0 0)

-- the steps that were its own
abbrev pub own_steps : Course → ℕ
own_steps (running above own) = own
own_steps (over own e) = own

abbrev pub Ended : Course → Type 0
Ended (running above own) = ⊥
Ended (over own e) = Unit
