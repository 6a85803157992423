-- Every schedule of at most six operations, on sizes within the limits: each is listed exactly once and nothing else is, steps before
-- begins; each has a text of its own, which tells it; and demand 3 holds of each.
use Rattle.std.specs.Prelude.{ℕ, ◌+◌, ◌*◌, ◌≤◌, ◌≡◌, true, List, ◌++◌, length, drop}
use Rattle.words.specs.declared.Queue.{Queue}
use Rattle.words.specs.declared.Sizes.{Sizes}
use Rattle.words.specs.Layout.{limits}
use Rattle.answers.specs.Said.{says}
use Rattle.asks.specs.Listing.{listing_of}
use Rattle.text.specs.Answer.{gives}
use Rattle.schedule.specs.Whole.{schedule_reading}
use Rattle.lists.specs.Count.{hit, cnt}
use Rattle.lists.specs.Beginning.{Beginning}
use Rattle.demand.specs.History.{Event, History, handed, still_in, listed}
use Rattle.demand.specs.Demand.{Reached, QuietAt}
use Rattle.limits.specs.Limits.{Each}
use Rattle.ways.specs.declared.Op.{Op}
use Rattle.ways.specs.Schedules.{Move, is_schedule, schedules, fresh}
use Rattle.entries.specs.Texts.{opening, schedule_events, schedule_text}
use Rattle.every.specs.Order.{times, Ordered}
use Rattle.every.specs.Calls.{Calls, moves_of}

-- no schedule of six operations on 16 levels has more moves: 6 × (16 × 13 + 16)
abbrev pub moves_most : ℕ
moves_most = 1344

-- no text of a schedule has more bytes: 15 before the events, and at most 12 for each of at most 13 events
abbrev pub text_most : ℕ
text_most = 171

-- q is a queue of the table
abbrev pub IsQueue : Sizes → Queue → Type 0
IsQueue s q = (1 ≤ q.0) × (q.0 ≤ s.queues)

-- Queue q at the end t of a schedule, after its calls es from a fresh table.
pub record AtEnd (s : Sizes) (es : List Event) (t : List ℕ) (q : Queue) : Type 0 where
  pub quiet : QuietAt t q
  -- nothing is lost, nothing is doubled
  pub once : (n : ℕ) → cnt n (listed s q es t) ≡ cnt n (handed q es)
  -- the listing call answers what is still in
  pub answers : (room : List ℕ) → length (still_in s t q) ≤ length room
      → listing_of t q room ≡ (says (length (still_in s t q)), still_in s t q ++ drop (length (still_in s t q)) room)
  -- the order is kept: wherever the calls are parted, if q is quiet there, its list there is a beginning of its list here
  pub kept : (fs gs : List Event) → fs ++ gs ≡ es
      → (u : List ℕ) × History (fresh s) fs u × History u gs t × (QuietAt u q → Beginning (listed s q fs u) (listed s q es t))

module _ (s : Sizes) (ops : List Op) where
  -- what the request admits
  abbrev pub Few : Type 0
  Few = (limits s ≡ true) × (length ops ≤ 6)

  -- the moves ms are a schedule of these operations from a fresh table
  abbrev pub Schedule : List Move → Type 0
  Schedule ms = is_schedule ms (fresh s) ops ≡ true

  -- A list of moves is listed once if it is a schedule, and else not at all.
  abbrev pub ListedOnce : Type 0
  ListedOnce = Few → (ms : List Move) → times ms (schedules s ops) ≡ hit (is_schedule ms (fresh s) ops)

  -- Steps before begins: of any two listed schedules the earlier takes a step where they first differ, and the later begins.
  abbrev pub StepsFirst : Type 0
  StepsFirst = Ordered (schedules s ops)

  -- A schedule of k operations has at most k × (L × (k + 7) + 16) moves.
  abbrev pub MovesFew : Type 0
  MovesFew = limits s ≡ true → (ms : List Move) → Schedule ms → length ms ≤ length ops * (s.levels * (length ops + 7) + 16)

  -- So none of at most six has more than 1,344.
  abbrev pub MovesMost : Type 0
  MovesMost = Few → (ms : List Move) → Schedule ms → length ms ≤ moves_most

  -- The text of a schedule is read as its sizes and its events, and these tell its moves.
  abbrev pub ReadsBack : Type 0
  ReadsBack =
      Few → (ms : List Move) → Schedule ms
      → (schedule_reading (schedule_text s ops ms) ≡ gives (opening s (schedule_events ops ms), schedule_events ops ms))
      × (moves_of (schedule_events ops ms) ≡ ms)

  -- So no two schedules have one text.
  abbrev pub OneText : Type 0
  OneText = Few → (xs ys : List Move) → Schedule xs → Schedule ys → schedule_text s ops xs ≡ schedule_text s ops ys → xs ≡ ys

  -- The text of a schedule has at most 171 bytes.
  abbrev pub TextsShort : Type 0
  TextsShort = Few → (ms : List Move) → Schedule ms → length (schedule_text s ops ms) ≤ text_most

  -- The moves ms make their calls from a fresh table to one in which every queue is quiet, and there demand 3 holds of every queue.
  abbrev pub Held : List Move → Type 0
  Held ms =
      (es : List Event) × (t : List ℕ) × Calls ms ops es × History (fresh s) es t × Reached s es t
      × ((q : Queue) → IsQueue s q → AtEnd s es t q)

  -- So it is with every schedule.
  abbrev pub ScheduleHeld : Type 0
  ScheduleHeld = limits s ≡ true → (ms : List Move) → Schedule ms → Held ms

  -- So each that is listed is held to demand 3.
  abbrev pub HeldToDemand3 : Type 0
  HeldToDemand3 = limits s ≡ true → Each Held (schedules s ops)
