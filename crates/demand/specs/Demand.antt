-- Demand 3: nothing is lost, nothing is doubled, and the order is kept from one quiet moment to the next, under any schedule of nested interrupts.
-- A history is any sequence of accepted calls from fresh, for any sizes within the limits and any lent words that hold the table.
use Rattle.std.specs.Prelude.{ℕ, ◌+◌, ◌≤◌, ◌<◌, ◌≡◌, ◌≢◌, true, List, [], ◌∷◌, ◌++◌, eqb, length, drop, Some}
use Rattle.words.specs.declared.Level.{Level}
use Rattle.words.specs.declared.Queue.{Queue}
use Rattle.words.specs.declared.Node.{Node}
use Rattle.words.specs.declared.Sizes.{Sizes}
use Rattle.words.specs.declared.Word.TheVariants.{Head, Use}
use Rattle.words.specs.Layout.{has, rd, frame_of}
use Rattle.answers.specs.declared.End.{End}
use Rattle.answers.specs.Said.{refused, says, going_on, ended, after, an_end, spent, nothing_runs, refusal_10}
use Rattle.fresh.specs.Fresh.{fresh_of}
use Rattle.begins.specs.Begin.{dequeue_of}
use Rattle.steps.specs.Step.{serving, step_of}
use Rattle.steps.specs.Run.{run_of}
use Rattle.asks.specs.Quiet.{quiet_of}
use Rattle.asks.specs.Listing.{listing_of}
use Rattle.table.specs.Points.{D3, number_of}
use Rattle.lists.specs.Count.{hit, cnt}
use Rattle.lists.specs.Beginning.{Beginning}
use Rattle.demand.specs.History.{
  Event,
  enqueued,
  dequeued,
  stepped,
  ran,
  asked,
  History,
  handed,
  returned,
  ended_on,
  still_in,
  listed,
}

-- es are the accepted calls from a fresh table to t
abbrev pub Reached : Sizes → List Event → List ℕ → Type 0
Reached s es t = (lent fresh : List ℕ) × (fresh_of s lent ≡ (says tt, fresh)) × History fresh es t

-- a quiet moment of queue q
abbrev pub QuietAt : List ℕ → Queue → Type 0
QuietAt t q = quiet_of t q ≡ says true

-- calls that begin nothing, and in which nothing ends
abbrev pub Uneventful : Event → Type 0
Uneventful (enqueued l q n) = ⊥
Uneventful (dequeued l q) = ⊥
Uneventful (stepped going_on) = Unit
Uneventful (stepped (ended e)) = ⊥
Uneventful (ran budget (after n (an_end e))) = ⊥
Uneventful (ran budget (after n spent)) = Unit
Uneventful (ran budget (after n nothing_runs)) = Unit
Uneventful (ran budget (after n refusal_10)) = Unit
Uneventful asked = Unit

abbrev pub AllUneventful : List Event → Type 0
AllUneventful [] = Unit
AllUneventful (e ∷ es) = Uneventful e × AllUneventful es

-- calls that begin nothing on q; on other queues they may
abbrev pub BeginsElsewhere : Queue → Event → Type 0
BeginsElsewhere q (enqueued l r n) = r ≢ q
BeginsElsewhere q (dequeued l r) = r ≢ q
BeginsElsewhere q (stepped x) = Unit
BeginsElsewhere q (ran budget x) = Unit
BeginsElsewhere q asked = Unit

abbrev pub NothingBegunOn : Queue → List Event → Type 0
NothingBegunOn q [] = Unit
NothingBegunOn q (e ∷ es) = BeginsElsewhere q e × NothingBegunOn q es

-- the first node of a list, 0 for none
abbrev pub first_of : List ℕ → ℕ
first_of [] = 0
first_of (n ∷ ns) = n

module _ (s : Sizes) (es : List Event) (t : List ℕ) (q : Queue) where
  -- At a quiet moment the list holds each node exactly as often as it was handed to q, and nothing else.
  abbrev pub EachOnce : Type 0
  EachOnce = Reached s es t → QuietAt t q → (n : ℕ) → cnt n (listed s q es t) ≡ cnt n (handed q es)

  -- The listing call accepts there, with any room that is enough, and answers what is still in q.
  abbrev pub ListingAnswers : Type 0
  ListingAnswers =
      Reached s es t → QuietAt t q → (room : List ℕ) → length (still_in s t q) ≤ length room
      → listing_of t q room ≡ (says (length (still_in s t q)), still_in s t q ++ drop (length (still_in s t q)) room)

  -- Of two quiet moments of q in one history, the earlier list is a beginning of the later.
  abbrev pub BeginningKept : Type 0
  BeginningKept =
      (fs : List Event) (u : List ℕ) → Reached s es t → QuietAt t q → History t fs u → QuietAt u q
      → Beginning (listed s q es t) (listed s q (es ++ fs) u)

  -- A dequeue begun when q is quiet, with nothing begun before it ends: from wherever its steps have come, a run of 22 + l steps ends it,
  -- and it returns the first node still in q when it began, or empty exactly if there was none.
  abbrev pub DequeueAlone : Type 0
  DequeueAlone =
      (l : Level) (u v : List ℕ) (fs : List Event) → Reached s es t → QuietAt t q → dequeue_of t l q ≡ (says tt, u)
      → History u fs v → AllUneventful fs → (budget : ℕ) → 22 + l.0 ≤ budget
      → (steps : ℕ) × (e : End) × (w : List ℕ) × (run_of budget v ≡ (says (after steps (an_end e)), w))
      × (e.op ≡ 2) × (e.level ≡ l) × (e.queue ≡ q) × (e.node.0 ≡ first_of (still_in s t q)) × (e.node.0 ≡ 0 → still_in s t q ≡ [])

  -- A dequeue begun when q is quiet, with nothing else begun on q; on other queues anything may begin, run and end. Once q is quiet
  -- again, one operation has ended on q: this dequeue, and it returned the first node still in q when it began, or empty exactly if
  -- there was none. Until then nothing has ended on q.
  abbrev pub AloneOnQueue : Type 0
  AloneOnQueue =
      (l : Level) (u v : List ℕ) (fs : List Event) → Reached s es t → QuietAt t q → dequeue_of t l q ≡ (says tt, u)
      → History u fs v → NothingBegunOn q fs
      → (QuietAt v q
      → (e : End) × (ended_on q fs ≡ e ∷ [])
      × (e.op ≡ 2) × (e.level ≡ l) × (e.queue ≡ q) × (e.node.0 ≡ first_of (still_in s t q)) × (e.node.0 ≡ 0 → still_in s t q ≡ []))
      × ((¬ QuietAt v q) → ended_on q fs ≡ [])

module _ (s : Sizes) (es : List Event) (t : List ℕ) (q : Queue) (n : Node) where
  -- A user's node was handed to q once more than it was returned where its use names q, and as often where it does not: at every moment.
  abbrev pub UseTells : Type 0
  UseTells =
      Reached s es t → has s (Head q) ≡ true → has s (Use n) ≡ true → s.queues < n.0
      → cnt n.0 (handed q es) ≡ cnt n.0 (returned q es) + hit (eqb (rd s t (Use n)) q.0)

  -- The nodes still in a quiet queue are those whose use names it.
  abbrev pub UseListed : Type 0
  UseListed =
      Reached s es t → QuietAt t q → has s (Use n) ≡ true → s.queues < n.0
      → cnt n.0 (still_in s t q) ≡ hit (eqb (rd s t (Use n)) q.0)

module _ (s : Sizes) (es : List Event) (t : List ℕ) where
  -- Refusal 10 never comes: not to a step, not to a run, not to a listing.
  abbrev pub NoRefusal10 : Type 0
  NoRefusal10 =
      Reached s es t
      → ((step_of t).0 ≢ refused 10) × ((budget n : ℕ) → (run_of budget t).0 ≢ says (after n refusal_10))
      × ((q : Queue) (room : List ℕ) → (listing_of t q room).0 ≢ refused 10)

  -- D3 never ends a dequeue: only D2 says empty.
  abbrev pub D3GoesOn : Type 0
  D3GoesOn =
      (l : Level) → Reached s es t → serving s t s.levels ≡ Some l → (frame_of s t l).point ≡ number_of D3 → (step_of t).0 ≡ says going_on
