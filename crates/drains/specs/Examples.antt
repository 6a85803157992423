-- The waiting count of four tables.
use Rattle.std.specs.Prelude.{ℕ, ◌≡◌, List, length, replicate}
use Rattle.words.specs.declared.Sizes.{Sizes}
use Rattle.words.specs.declared.Word.TheVariants.{Head, Tail, Next}
use Rattle.words.specs.Layout.{level, queue, node, wr}
use Rattle.answers.specs.Said.{refused, says}
use Rattle.fresh.specs.Fresh.{fresh_table}
use Rattle.steps.specs.Run.{run_from}
use Rattle.begins.specs.Begin.{enqueue_sized}
use Rattle.waiting.specs.Waiting.{waiting_of}
use Rattle.demand.specs.History.{still_in}
use Rattle.drains.specs.Naming.{naming}

-- ---- L 2, Q 1, N 4

abbrev pub four : Sizes
four = record { levels = 2; queues = 1; nodes = 4 }

-- 2 is in
abbrev pub one_in : List ℕ
one_in = (run_from four 10 0 (enqueue_sized four (fresh_table four (replicate 40 0)) (level 0) (queue 1) (node 2)).1).1

-- and an enqueue of 3 was stopped after 4 steps
abbrev pub stopped : List ℕ
stopped = (run_from four 4 0 (enqueue_sized four one_in (level 0) (queue 1) (node 3)).1).1

-- A reader gets 2 at first. Then it gets none, though two nodes are handed in and not returned, and one is in from head to tail.
abbrev pub ReaderGets : Type 0
ReaderGets =
    (waiting_of one_in (queue 1) ≡ says 1)
    × (waiting_of stopped (queue 1) ≡ says 0)
    × (naming four stopped (queue 1) 4 ≡ 2)
    × (length (still_in four stopped (queue 1)) ≡ 1)

-- ---- L 1, Q 1, N 2, damaged

abbrev pub two : Sizes
two = record { levels = 1; queues = 1; nodes = 2 }

abbrev pub fresh_two : List ℕ
fresh_two = fresh_table two (replicate 23 0)

-- head is no node: a step of the copy meets it
abbrev pub stray : List ℕ
stray = wr two fresh_two (Head (queue 1)) 9

-- the last node's next is itself: no step meets anything wrong, and the sentinel's walk along next has no end
abbrev pub looped : List ℕ
looped = wr two (wr two (wr two fresh_two (Tail (queue 1)) 2) (Next (node 1)) 2) (Next (node 2)) 2

abbrev pub DamagedGets : Type 0
DamagedGets = (waiting_of stray (queue 1) ≡ refused 10) × (waiting_of looped (queue 1) ≡ refused 10)
