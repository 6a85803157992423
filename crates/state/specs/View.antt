-- The word table seen as a memory and as frames, 0 where the table has no such word.
use Rattle.std.specs.Prelude.{ℕ, cond, List, ltb}
use Rattle.words.specs.declared.Sizes.{Sizes}
use Rattle.words.specs.declared.Frame.{Frame}
use Rattle.words.specs.declared.Word.{Word}
use Rattle.words.specs.declared.Word.TheVariants.{LevelNode, LevelQueue, Head, Tail, Next, Use}
use Rattle.words.specs.Layout.{level, queue, node, has, rd, frame_of, no_frame}
use Rattle.state.specs.Mem.{Mem}
use Rattle.state.specs.Step.{State}

-- a word's value, 0 where the table has no such word
unfoldable pub seen : Sizes → List ℕ → Word → ℕ
seen s t w = cond (has s w) (rd s t w) 0

-- the six kinds of word, by their numbers
abbrev pub level_node : ℕ → Word
level_node i = LevelNode (level i)

abbrev pub level_queue : ℕ → Word
level_queue i = LevelQueue (level i)

abbrev pub head_of : ℕ → Word
head_of i = Head (queue i)

abbrev pub tail_of : ℕ → Word
tail_of i = Tail (queue i)

abbrev pub next_of : ℕ → Word
next_of i = Next (node i)

abbrev pub use_of : ℕ → Word
use_of i = Use (node i)

abbrev pub column : Sizes → List ℕ → (ℕ → Word) → ℕ → ℕ
column s t mk i = seen s t (mk i)

unfoldable pub memory : Sizes → List ℕ → Mem
memory s t =
    record {
      ln = column s t level_node;
      lq = column s t level_queue;
      head = column s t head_of;
      tail = column s t tail_of;
      next = column s t next_of;
      uses = column s t use_of;
    }

-- a level's frame, none where the table has no such level
unfoldable pub frames : Sizes → List ℕ → ℕ → Frame
frames s t l = cond (ltb l s.levels) (frame_of s t (level l)) no_frame

-- the table as the theory sees it
abbrev pub state_of : Sizes → List ℕ → State
state_of s t = record { mem = memory s t; frames = frames s t }
