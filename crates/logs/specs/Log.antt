-- The log of a schedule's text, as document 01 says it of the bench program; and the bounds log, which the second log program prints.
use Rattle.std.specs.Prelude.{ℕ, zero, suc, List, [], ◌++◌, Option, Some, None, cond, length, get_or, take, drop, replicate, ltb}
use Rattle.words.specs.declared.Sizes.{Sizes}
use Rattle.words.specs.Layout.{queue}
use Rattle.answers.specs.declared.End.{End}
use Rattle.answers.specs.Said.{Said, refused, says}
use Rattle.text.specs.declared.Opening.{Opening}
use Rattle.text.specs.declared.Event.{Event}
use Rattle.text.specs.Answer.{Answer, gives, refuses}
use Rattle.schedule.specs.Whole.{schedule_reading}
use Rattle.fresh.specs.Fresh.{fresh_of}
use Rattle.asks.specs.Listing.{listing_of}
use Rattle.loglines.specs.Lines.{text_line, sizes_line, line_of, queue_line, unquiet_line}
use Rattle.play.specs.Play.{events_of}
use Rattle.logs.specs.declared.Kind.{Kind}
use Rattle.logs.specs.declared.Kind.TheVariants.{Plain, Bounds}

-- `Q queue` and its listing, or `U queue`
unfoldable pub listed_line : ℕ → Said ℕ × List ℕ → List ℕ
listed_line q (says n, nodes) = queue_line q (take n nodes)
listed_line q (refused r, nodes) = unquiet_line q

unfoldable pub queue_of : List ℕ → ℕ → List ℕ
queue_of t q = listed_line q (listing_of t (queue q) (replicate 1024 0))

-- so many queues from queue q on
unfoldable pub queues_of : List ℕ → ℕ → ℕ → List ℕ
queues_of t q zero = []
queues_of t q (suc n) = queue_of t q ++ queues_of t (suc q) n

abbrev pub opening_sizes : Opening → Sizes
opening_sizes o = record { levels = o.levels; queues = o.queues; nodes = o.nodes }

-- what the events did, and then a line for each queue
abbrev pub with_queues : Opening → List ℕ × List ℕ → List ℕ × List ℕ
with_queues o p = (p.0 ++ queues_of p.1 1 o.queues, p.1)

-- what stands beside an enqueue's steps, among so many nodes: in the log nothing, in the bounds log their bound
abbrev pub beside_of : Kind → ℕ → Option ℕ
beside_of Plain nodes = None
beside_of Bounds nodes = Some nodes

-- the line of an ended operation
abbrev pub line_in : Kind → Opening → End → List ℕ
line_in kind o = line_of (beside_of kind o.nodes)

-- sizes refused: `R 0 2` and nothing more
unfoldable pub sized_log : Kind → Opening → List Event → Said Unit × List ℕ → List ℕ × List ℕ
sized_log kind o es (refused r, t) = (sizes_line, t)
sized_log kind o es (says _, t) = with_queues o (events_of (line_in kind o) 1 es t)

-- text refused: `T line` and nothing more
unfoldable pub read_log : Kind → List ℕ → Answer (Opening × List Event) → List ℕ × List ℕ
read_log kind t (refuses number values) = (text_line (get_or values 0 0), t)
read_log kind t (gives s) = sized_log kind s.0 s.1 (fresh_of (opening_sizes s.0) t)

-- the log, and the words of the table t that was lent for the work
unfoldable pub log_text : Kind → List ℕ → List ℕ → List ℕ × List ℕ
log_text kind text t = read_log kind t (schedule_reading text)

-- the words of the largest table: 16 levels, 8 queues, 1,024 nodes
abbrev pub largest : ℕ
largest = 2276

-- the bytes of room that every log of its kind fits: six and seven times those of the longest text
abbrev pub room_of : Kind → ℕ
room_of Plain = 393216
room_of Bounds = 458752

-- the log at the room's start and nothing past it, and the table afterwards
unfoldable pub put_log : List ℕ × List ℕ → List ℕ → (Said ℕ × List ℕ) × List ℕ
put_log p room = ((says (length p.0), p.0 ++ drop (length p.0) room), p.1)

-- refusals 1 and 12 for a table or a room that is too small, whatever the text is
unfoldable pub log_of : Kind → List ℕ → List ℕ → List ℕ → (Said ℕ × List ℕ) × List ℕ
log_of kind text t room =
    cond (ltb (length t) largest) ((refused 1, room), t)
    (cond (ltb (length room) (room_of kind)) ((refused 12, room), t) (put_log (log_text kind text t) room))
