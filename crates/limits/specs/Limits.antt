-- How long an operation can take, in steps of its own, whatever interrupts it: enqueues and dequeues on whichever queues, above and below,
-- at any moment of any history of accepted calls from a fresh table. The steps word is that count.
use Rattle.std.specs.Prelude.{ℕ, ◌+◌, ◌*◌, ◌≤◌, ◌<◌, ◌≡◌, ◌≢◌, List, [], ◌∷◌, Some}
use Rattle.words.specs.declared.Level.{Level}
use Rattle.words.specs.declared.Queue.{Queue}
use Rattle.words.specs.declared.Node.{Node}
use Rattle.words.specs.declared.Sizes.{Sizes}
use Rattle.words.specs.Layout.{frame_of}
use Rattle.answers.specs.declared.End.{End}
use Rattle.answers.specs.Said.{says, after, an_end}
use Rattle.answers.specs.Most.{enqueue_most, operation_most}
use Rattle.table.specs.Frames.{counted}
use Rattle.begins.specs.Begin.{enqueue_of, dequeue_of}
use Rattle.steps.specs.Step.{serving}
use Rattle.steps.specs.Run.{run_of}
use Rattle.costs.specs.Bounds.{AtMost}
use Rattle.demand.specs.History.{Event, History}
use Rattle.demand.specs.Demand.{Reached}
use Rattle.limits.specs.Course.{ends_of, moves, begun, Course, running, over, course, since, own_steps, Ended}

-- the steps word counts no further
abbrev pub cap : ℕ
cap = 65535

-- all that document 01's limits are needed for: (L + 1) × (N + 6) + 15 is below the cap, and so is every bound
abbrev pub Capped : Sizes → Type 0
Capped s = operation_most s.levels s.nodes < cap

abbrev pub Each : {A : Type 0} → (A → Type 0) → List A → Type 0
Each P [] = Unit
Each P (x ∷ xs) = P x × Each P xs

-- the steps of an end are within its bounds, in a table of n nodes
abbrev pub InBounds : ℕ → End → Type 0
InBounds n e = AtMost e.level.0 n e.op e.steps

-- ---- the words

module _ (s : Sizes) (es : List Event) (t : List ℕ) where
  -- At every moment the steps word of an enqueue that runs at level l is below (l + 2) × (N + 6).
  abbrev pub EnqueueBelow : Type 0
  EnqueueBelow =
      (l : Level) → Reached s es t → Capped s → l.0 < s.levels → (frame_of s t l).op ≡ 1
      → (frame_of s t l).steps < enqueue_most l.0 s.nodes

  -- That of any operation, an enqueue or a dequeue, is below (l + 1) × (N + 6) + 15.
  abbrev pub OperationBelow : Type 0
  OperationBelow =
      (l : Level) → Reached s es t → Capped s → l.0 < s.levels → (frame_of s t l).op ≢ 0
      → (frame_of s t l).steps < operation_most l.0 s.nodes

  -- Every end that was answered has at most so many steps.
  abbrev pub EndsWithin : Type 0
  EndsWithin = Reached s es t → Capped s → Each (InBounds s.nodes) (ends_of es)

  -- Within document 01's limits the bounds are below the cap; so it never bites: each step of an operation adds 1 to its word.
  abbrev pub LimitsSuffice : Type 0
  LimitsSuffice = Reached s es t → Capped s

  abbrev pub EachCounted : Type 0
  EachCounted =
      (l : Level) → Reached s es t → Capped s → l.0 < s.levels → (frame_of s t l).op ≢ 0
      → (counted (frame_of s t l)).steps ≡ (frame_of s t l).steps + 1

-- ---- one operation, followed from its begin

-- the next step of table v serves level l exactly where none of so many runs above it
abbrev pub Serves : Sizes → List ℕ → Level → ℕ → Type 0
Serves s v l above = (above ≡ 0 → serving s v s.levels ≡ Some l) × (serving s v s.levels ≡ Some l → above ≡ 0)

-- An operation op that was begun at level l on queue q, in table v after the calls that came since: while it runs its frame is at level l
-- and the steps word is the number of its own steps, fewer than the bound; the end that is answered is its own, with that number, at most
-- the bound.
abbrev pub Followed : Sizes → ℕ → Level → Queue → ℕ → List ℕ → Course → Type 0
Followed s op l q most v (running above own) =
    ((frame_of s v l).op ≡ op) × ((frame_of s v l).queue ≡ q) × ((frame_of s v l).steps ≡ own) × (own < most) × Serves s v l above
Followed s op l q most v (over own e) = (e.op ≡ op) × (e.level ≡ l) × (e.queue ≡ q) × (e.steps ≡ own) × (own ≤ most)

-- It ends within its bound; c is its course up to table v.
pub record Within (s : Sizes) (op : ℕ) (l : Level) (q : Queue) (most : ℕ) (c : Course) (v : List ℕ) : Type 0 where
  pub followed : Followed s op l q most v c
  -- under every schedule that keeps stepping it: once so many steps were its own, it has ended
  pub ends : most ≤ own_steps c → Ended c
  -- and nothing refuses it those steps: where nothing runs above it, a run with what is left of the bound ends it
  pub runs : (own budget : ℕ) → c ≡ running 0 own → most ≤ own + budget
      → (n : ℕ) × (e : End) × (w : List ℕ) × (run_of budget v ≡ (says (after n (an_end e)), w))
      × (e.op ≡ op) × (e.level ≡ l) × (e.queue ≡ q) × (e.steps ≡ own + n)

module _ (s : Sizes) (es : List Event) (t : List ℕ) (l : Level) (q : Queue) (u : List ℕ) (fs : List Event) (v : List ℕ) where
  -- An enqueue begun at any moment, and then any calls: whatever interrupts it, it ends within (l + 2) × (N + 6) steps of its own.
  abbrev pub EnqueueWithin : Type 0
  EnqueueWithin =
      (n : Node) → Reached s es t → Capped s → enqueue_of t l q n ≡ (says tt, u) → History u fs v
      → Within s 1 l q (enqueue_most l.0 s.nodes) (since fs) v

  -- A dequeue likewise within (l + 1) × (N + 6) + 15, the enqueue of its sentinel included.
  abbrev pub DequeueWithin : Type 0
  DequeueWithin =
      Reached s es t → Capped s → dequeue_of t l q ≡ (says tt, u) → History u fs v
      → Within s 2 l q (operation_most l.0 s.nodes) (since fs) v

module _ (s : Sizes) (es : List Event) (t : List ℕ) (l : Level) where
  -- From any moment at which an enqueue runs at level l, with some number of operations running above it, and then any calls.
  abbrev pub EnqueueFrom : Type 0
  EnqueueFrom =
      Reached s es t → Capped s → l.0 < s.levels → (frame_of s t l).op ≡ 1
      → (above : ℕ) × ((fs : List Event) (v : List ℕ) → History t fs v
      → Within s 1 l (frame_of s t l).queue (enqueue_most l.0 s.nodes) (course fs (running above (frame_of s t l).steps)) v)

  abbrev pub DequeueFrom : Type 0
  DequeueFrom =
      Reached s es t → Capped s → l.0 < s.levels → (frame_of s t l).op ≡ 2
      → (above : ℕ) × ((fs : List Event) (v : List ℕ) → History t fs v
      → Within s 2 l (frame_of s t l).queue (operation_most l.0 s.nodes) (course fs (running above (frame_of s t l).steps)) v)

-- ---- a whole history

module _ (s : Sizes) (es : List Event) (t : List ℕ) where
  -- With k operations begun from fresh there are at most k × (L × (k + 7) + 16) moves: a queue then holds at most k + 1 nodes, however
  -- many the table has. K is k, or more.
  abbrev pub MovesWithin : Type 0
  MovesWithin = (K : ℕ) → Reached s es t → Capped s → begun es ≤ K → moves es ≤ begun es * (s.levels * (K + 7) + 16)
