-- The starred worked runs of document 01, as one list: L 2, Q 1, N 4. The program case stands twice, for the bounds log too.
use Rattle.std.specs.Prelude.{ℕ, ◌≡◌, List, [], ◌∷◌, ◌++◌, length, replicate}
use Prim.Native.Char.{code}
use Prim.Native.String.{String, [] as []ₛ, ◌∷◌ as ◌∷ₛ◌}
use Rattle.words.specs.declared.Sizes.{Sizes}
use Rattle.words.specs.declared.Word.TheVariants.{Head, Tail}
use Rattle.words.specs.Layout.{level, queue, node, rd}
use Rattle.answers.specs.declared.End.{End}
use Rattle.answers.specs.Said.{Said, refused, says}
use Rattle.text.specs.declared.Opening.{Opening}
use Rattle.text.specs.declared.Event.{Event}
use Rattle.text.specs.declared.Event.TheVariants.{Enqueue, Dequeue, Steps}
use Rattle.fresh.specs.Fresh.{fresh_of}
use Rattle.loglines.specs.Lines.{end_line, queue_line}
use Rattle.logs.specs.declared.Kind.{Kind}
use Rattle.logs.specs.declared.Kind.TheVariants.{Plain, Bounds}
use Rattle.logs.specs.Log.{opening_sizes, sized_log, log_text}

abbrev pub opening : List Event → Opening
opening es = record { levels = 2; queues = 1; nodes = 4; events = length es }

abbrev pub sizes : Sizes
sizes = opening_sizes (opening [])

abbrev pub room : ℕ → List ℕ
room n = replicate n 0

-- the bytes of an ASCII text: the code of each character
abbrev pub bytes : String → List ℕ
bytes []ₛ = []
bytes (c ∷ₛ s) = code c ∷ bytes s

-- events and ended operations as a schedule and a log write them
abbrev E : ℕ → ℕ → ℕ → Event
E l q n = Enqueue (level l) (queue q) (node n)

abbrev D : ℕ → ℕ → Event
D l q = Dequeue (level l) (queue q)

abbrev S : ℕ → Event
S n = Steps n

abbrev end : ℕ → ℕ → ℕ → ℕ → ℕ → End
end op l q n steps = record { op = op; level = level l; queue = queue q; node = node n; steps = steps }

abbrev E· : ℕ → ℕ → ℕ → ℕ → End
E· l q n steps = end 1 l q n steps

abbrev D· : ℕ → ℕ → ℕ → ℕ → End
D· l q n steps = end 2 l q n steps

-- the operations that ended, and the listing of queue 1
abbrev pub lines : List End → List ℕ → List ℕ
lines [] nodes = queue_line 1 nodes
lines (e ∷ es) nodes = end_line e ++ lines es nodes

-- from a fresh table of 40 words: the log, and the table afterwards
abbrev pub outcome : List Event → List ℕ × List ℕ
outcome es = sized_log Plain (opening es) es (fresh_of sizes (room 40))

-- what a run shows: fresh answers this for so many words; these events end these operations and leave this listing; they leave
-- this head and tail; the program of this kind, given this text, prints this
pub data Run : Type 0 where
  fresh : ℕ → Said Unit → Run
  lists : List Event → List End → List ℕ → Run
  ends : List Event → ℕ → ℕ → Run
  prints : Kind → String → String → Run

abbrev pub Holds : Run → Type 0
Holds (fresh n answer) = (fresh_of sizes (room n)).0 ≡ answer
Holds (lists es done nodes) = (outcome es).0 ≡ lines done nodes
Holds (ends es head tail) = (rd sizes (outcome es).1 (Head (queue 1)) ≡ head) × (rd sizes (outcome es).1 (Tail (queue 1)) ≡ tail)
Holds (prints kind schedule log) = (log_text kind (bytes schedule) (room 40)).0 ≡ bytes log

-- the schedule of the program case
abbrev swap : String
swap = "3\n2\n1\n4\n6\nE 0 1 2\nS 4\nE 1 1 3\nS 13\nE 1 1 4\nS 21\n"

abbrev pub starred : List Run
starred =
    fresh 40 (says tt)
    ∷ fresh 39 (refused 1)
    ∷ lists (E 0 1 2 ∷ S 10 ∷ []) (E· 0 1 2 10 ∷ []) (2 ∷ [])
    ∷ lists (E 1 1 2 ∷ S 11 ∷ []) (E· 1 1 2 11 ∷ []) (2 ∷ [])
    ∷ lists (D 0 1 ∷ S 2 ∷ []) (D· 0 1 0 2 ∷ []) []
    ∷ lists (E 0 1 2 ∷ S 10 ∷ D 0 1 ∷ S 22 ∷ []) (E· 0 1 2 10 ∷ D· 0 1 2 22 ∷ []) []
    ∷ ends (E 0 1 2 ∷ S 10 ∷ D 0 1 ∷ S 22 ∷ []) 1 1
    ∷ prints Plain swap "E 1 1 3 13\nE 1 1 4 13\nE 0 1 2 12\nQ 1 2 4 3\n"
    ∷ prints Bounds swap "E 1 1 3 13 30\nE 1 1 4 13 30\nE 0 1 2 12 20\nQ 1 2 4 3\n"
    ∷ lists (E 0 1 2 ∷ S 6 ∷ E 1 1 3 ∷ S 16 ∷ S 4 ∷ []) (E· 1 1 3 16 ∷ E· 0 1 2 10 ∷ []) (3 ∷ 2 ∷ [])
    ∷ lists (E 0 1 2 ∷ S 6 ∷ E 1 1 3 ∷ S 16 ∷ D 1 1 ∷ S 28 ∷ D 1 1 ∷ S 2 ∷ S 4 ∷ [])
    (E· 1 1 3 16 ∷ D· 1 1 3 28 ∷ D· 1 1 0 2 ∷ E· 0 1 2 10 ∷ []) (2 ∷ [])
    ∷ lists (E 0 1 2 ∷ S 8 ∷ E 1 1 3 ∷ S 14 ∷ S 2 ∷ []) (E· 1 1 3 14 ∷ E· 0 1 2 10 ∷ []) (2 ∷ 3 ∷ [])
    ∷ lists (E 0 1 2 ∷ S 10 ∷ E 0 1 3 ∷ S 4 ∷ D 1 1 ∷ S 21 ∷ S 7 ∷ []) (E· 0 1 2 10 ∷ D· 1 1 0 21 ∷ E· 0 1 3 11 ∷ []) (2 ∷ 3 ∷ [])
    ∷ []

-- kept: std's All asks for each index, and these runs are shown one by one, by computing
abbrev pub All : (Run → Type 0) → List Run → Type 0
All P [] = Unit
All P (r ∷ rs) = P r × All P rs
