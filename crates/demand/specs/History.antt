-- What a history is: accepted calls, one after another, with what each answered; what they handed to a queue and returned from it.
use Rattle.std.specs.Prelude.{ℕ, zero, suc, ◌≡◌, cond, not, ◌&&◌, List, [], ◌∷◌, ◌++◌, eqb}
use Rattle.words.specs.declared.Level.{Level}
use Rattle.words.specs.declared.Queue.{Queue}
use Rattle.words.specs.declared.Node.{Node}
use Rattle.words.specs.declared.Sizes.{Sizes}
use Rattle.words.specs.declared.Word.TheVariants.{Head, Tail, Next}
use Rattle.words.specs.Layout.{node, rd}
use Rattle.answers.specs.declared.End.{End}
use Rattle.answers.specs.Said.{says, Step, going_on, ended, an_end, spent, nothing_runs, refusal_10, Run, after}
use Rattle.begins.specs.Begin.{enqueue_of, dequeue_of}
use Rattle.steps.specs.Step.{step_of}
use Rattle.steps.specs.Run.{run_of}
use Rattle.lists.specs.Beginning.{without}

-- an accepted call, with what it answered
pub data Event : Type 0 where
  enqueued : Level → Queue → Node → Event
  dequeued : Level → Queue → Event
  stepped : Step → Event
  ran : ℕ → Run → Event
  asked : Event

-- the call on table t was accepted, and left table u
pub data Accepted (t u : List ℕ) : Event → Type 0 where
  enqueue : {l : Level} {q : Queue} {n : Node} → enqueue_of t l q n ≡ (says tt, u) → Accepted t u (enqueued l q n)
  dequeue : {l : Level} {q : Queue} → dequeue_of t l q ≡ (says tt, u) → Accepted t u (dequeued l q)
  step : {x : Step} → step_of t ≡ (says x, u) → Accepted t u (stepped x)
  run : {budget : ℕ} {x : Run} → run_of budget t ≡ (says x, u) → Accepted t u (ran budget x)
  -- quiet, waiting and listing change nothing
  ask : t ≡ u → Accepted t u asked

-- the calls, the first one first, that led from table t to table u
pub data History : List ℕ → List Event → List ℕ → Type 0 where
  none : {t u : List ℕ} → t ≡ u → History t [] u
  call : {t u v : List ℕ} {e : Event} {es : List Event} → Accepted t u e → History u es v → History t (e ∷ es) v

-- ---- handed to queue q, returned from it, and ended on it, in order

abbrev pub handed_by : ℕ → Event → List ℕ
handed_by q (enqueued l r n) = cond (eqb r.0 q) (n.0 ∷ []) []
handed_by q (dequeued l r) = []
handed_by q (stepped x) = []
handed_by q (ran budget x) = []
handed_by q asked = []

-- what f gives of the operation that ended in a step, a run, a call; nothing where none did
abbrev pub of_step : {A : Type 0} → (End → List A) → Step → List A
of_step f going_on = []
of_step f (ended e) = f e

abbrev pub of_run : {A : Type 0} → (End → List A) → Run → List A
of_run f (after n (an_end e)) = f e
of_run f (after n spent) = []
of_run f (after n nothing_runs) = []
of_run f (after n refusal_10) = []

abbrev pub of_call : {A : Type 0} → (End → List A) → Event → List A
of_call f (enqueued l r n) = []
of_call f (dequeued l r) = []
of_call f (stepped x) = of_step f x
of_call f (ran budget x) = of_run f x
of_call f asked = []

-- a dequeue on q that ended, and not empty, returned its node
abbrev pub returned_at_end : ℕ → End → List ℕ
returned_at_end q e = cond (eqb e.op 2 && eqb e.queue.0 q && not (eqb e.node.0 0)) (e.node.0 ∷ []) []

abbrev pub returned_by_step : ℕ → Step → List ℕ
returned_by_step q x = of_step (returned_at_end q) x

abbrev pub returned_by_run : ℕ → Run → List ℕ
returned_by_run q x = of_run (returned_at_end q) x

abbrev pub returned_by : ℕ → Event → List ℕ
returned_by q e = of_call (returned_at_end q) e

-- an operation on q, whatever it answered
abbrev pub ended_at : ℕ → End → List End
ended_at q e = cond (eqb e.queue.0 q) (e ∷ []) []

-- by all calls of a history
abbrev pub all : {A : Type 0} → (Event → List A) → List Event → List A
all f [] = []
all f (e ∷ es) = f e ++ all f es

abbrev pub handed : Queue → List Event → List ℕ
handed q es = all (handed_by q.0) es

abbrev pub returned : Queue → List Event → List ℕ
returned q es = all (returned_by q.0) es

abbrev pub ended_on : Queue → List Event → List End
ended_on q es = all (of_call (ended_at q.0)) es

-- ---- still in queue q

-- the nodes from c along next to the tail, n of them at most
unfoldable pub along : Sizes → List ℕ → ℕ → ℕ → ℕ → List ℕ
along s t tail zero c = []
along s t tail (suc n) c = c ∷ cond (eqb c tail) [] (along s t tail n (rd s t (Next (node c))))

-- from head along next to tail, sentinel left out; a table has N nodes
unfoldable pub still_in : Sizes → List ℕ → Queue → List ℕ
still_in s t q = without q.0 (along s t (rd s t (Tail q)) s.nodes (rd s t (Head q)))

-- the list of demand 3: returned so far, then those still in
abbrev pub listed : Sizes → Queue → List Event → List ℕ → List ℕ
listed s q es t = returned q es ++ still_in s t q
