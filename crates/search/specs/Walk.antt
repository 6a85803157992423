-- The schedules listed one after another, as the explorers do it.
use Rattle.std.specs.Prelude.{ℕ, ◌+◌, ◌-◌, ◌*◌, ◌≤◌, ◌<◌, ◌≡◌, Bool, true, false, cond, List, [], ◌∷◌, ◌++◌, leb, length, take, Option, Some, None}
use Rattle.std.proofs.lemmas.List.Edits.{sets}
use Rattle.words.specs.declared.Sizes.{Sizes}
use Rattle.words.specs.Layout.{limits, words}
use Rattle.ways.specs.declared.Op.{Op}
use Rattle.ways.specs.Schedules.{Move, ops_in, schedules}
use Rattle.entries.specs.Texts.{counts, events_of, events_text_of}
use Rattle.outcomes.specs.Tallies.{tallied}
use Rattle.search.specs.declared.Listed.{Listed}
use Rattle.search.specs.declared.Listing.{Listing}
use Rattle.search.specs.declared.Spot.{Spot}
use Rattle.search.specs.declared.Stop.{Stop}
use Rattle.search.specs.declared.Stop.TheVariants.{Going, Cut, Full, Other}
use Rattle.search.specs.declared.Asked.{Asked}
use Rattle.search.specs.declared.What.{What}
use Rattle.search.specs.declared.What.TheVariants.{Count, Tally, Measure, Write}

abbrev pub sizes_of : Asked → Sizes
sizes_of a = record { levels = a.levels; queues = a.queues; nodes = a.nodes }

abbrev pub ops_of : Asked → List ℕ → List Op
ops_of a ws = ops_in a.operations ws 0

-- the text of the schedule with these counts
unfoldable pub entry_text : Asked → List ℕ → List ℕ → List ℕ
entry_text a ws cs = events_text_of (sizes_of a) (events_of cs (ops_of a ws))

-- what is listed so far, the room, and the tallies
abbrev pub State : Type 0
State = Listed × (List ℕ × List ℕ)

abbrev pub state_of : Listing → State
state_of x = (x.listed, (x.room.now, x.tallies.now))

abbrev pub more : ℕ → Listed → Listed
more n l = record { count = l.count + 1; at = l.at + n; stop = l.stop }

abbrev pub is_going : Stop → Bool
is_going Going = true
is_going Cut = false
is_going Full = false
is_going (Other n) = false

abbrev pub is_full : Stop → Bool
is_full Going = false
is_full Cut = false
is_full Full = true
is_full (Other n) = false

abbrev pub shut : Stop → Listed → Listed
shut x l = record { count = l.count; at = l.at; stop = x }

-- one text more in the room, if it fits
abbrev pub fits : List ℕ → Listed → List ℕ → Bool
fits text l room = leb (l.at + length text) (length room)

unfoldable pub noted : List ℕ → Listed → List ℕ → Listed
noted text l room = cond (fits text l room) (more (length text) l) (shut Full l)

unfoldable pub written : List ℕ → Listed → List ℕ → List ℕ
written text l room = cond (fits text l room) (sets room l.at text) room

-- what is done with the schedule that has these counts
unfoldable pub entered : Asked → List ℕ → List ℕ → What → State → State
entered a ws cs Count (l, (room, ts)) = (more 0 l, (room, ts))
entered a ws cs Tally (l, (room, ts)) = (more 0 l, (room, tallied (sizes_of a) ws a.operations cs ts))
entered a ws cs Measure (l, (room, ts)) = (noted (entry_text a ws cs) l room, (room, ts))
entered a ws cs Write (l, (room, ts)) = (noted (entry_text a ws cs) l room, (written (entry_text a ws cs) l room, ts))

-- one schedule more, by its counts: nothing where no more is listed, or where as many are listed as are wanted
unfoldable pub emitted : Asked → List ℕ → List ℕ → State → State
emitted a ws cs st =
    cond (is_going st.0.stop) (cond (leb a.bound st.0.count) (shut Cut st.0, st.1) (entered a ws cs a.what st)) st

-- the one schedule that ends so, after the counts that stand before
unfoldable pub tailed : Asked → List ℕ → List ℕ → Option ℕ → State → State
tailed a ws before (Some m) st = emitted a ws (before ++ (m ∷ [])) st
tailed a ws before None st = st

-- these schedules, after the counts that stand before them and n steps
unfoldable pub listing : Asked → List ℕ → List ℕ → ℕ → List (List Move) → State → State
listing a ws before n [] st = st
listing a ws before n (ms ∷ mss) st = listing a ws before n mss (emitted a ws (before ++ counts n ms) st)

abbrev pub none : Listed
none = record { count = 0; at = 0; stop = Going }

-- all of them, where nothing was before
unfoldable pub listed_of : Asked → List ℕ → List ℕ → List ℕ → State
listed_of a ws room ts = listing a ws [] 0 (schedules (sizes_of a) (ops_of a ws)) (none, (room, ts))

-- the same, of which another thing is asked
abbrev pub asks : What → Asked → Asked
asks w a =
    record { levels = a.levels; queues = a.queues; nodes = a.nodes; operations = a.operations; bound = a.bound; what = w }

-- ---- what our own functions ask of each other, by the lengths of the table, of its copy and of the operations' words

-- the sizes are within the limits, and at most six operations have their words
abbrev pub Given : ℕ → Asked → Type 0
Given ws a = (limits (sizes_of a) ≡ true) × (a.operations ≤ 6) × (4 * a.operations ≤ ws)

-- the operations that remain at a spot, and these schedules listed after the counts that stand before it
abbrev pub ops_at : Asked → List ℕ → Spot → List Op
ops_at a ws at = ops_in (a.operations - at.i) ws at.i

abbrev pub listing_at : Asked → List ℕ → Spot → List (List Move) → State → State
listing_at a ws at = listing a ws (take at.i at.path) at.n

-- what is lent stays what it is, and as long as it is
pub record Kept (x y : Listing) : Type 0 where
  pub copy : length y.copy.now ≡ length x.copy.now
  pub room : length y.room.now ≡ length x.room.now
  pub tallies : length y.tallies.now ≡ length x.tallies.now
  pub same_copy : y.copy.ghost_name ≡ x.copy.ghost_name
  pub same_room : y.room.ghost_name ≡ x.room.ghost_name
  pub same_tallies : y.tallies.ghost_name ≡ x.tallies.ghost_name

-- operation i is the next, n steps were taken since the last begin, and a table is saved in so many words
abbrev pub Exploring : ℕ → ℕ → ℕ → Asked → Spot → Type 0
Exploring words t copy a at =
    (at.i < a.operations) × (at.n + at.left ≤ 65535) × (copy ≡ t) × (t ≤ words) × (words ≤ 2276)
