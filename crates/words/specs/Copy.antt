-- The copy of a table with one more idle level on top, in words.
use Rattle.std.specs.Prelude.{ℕ, suc, ◌-◌, List, ◌∷◌, ◌++◌, take, drop}
use Rattle.words.specs.declared.Sizes.{Sizes}
use Rattle.words.specs.Layout.{words, queues_at, put_counts, frame_words, no_frame}

-- the sizes with one more level
abbrev pub taller : Sizes → Sizes
taller s = record { levels = suc s.levels; queues = s.queues; nodes = s.nodes }

-- the words up to the levels' last, and those that follow them
abbrev pub level_words : Sizes → List ℕ → List ℕ
level_words s t = take (queues_at s.levels) t

abbrev pub other_words : Sizes → List ℕ → List ℕ
other_words s t = take (words s - queues_at s.levels) (drop (queues_at s.levels) t)

-- all words as they are, with the new level's two words after the other levels', and its frame after the other frames, all 0
unfoldable pub spread : Sizes → List ℕ → List ℕ
spread s t = level_words s t ++ (0 ∷ 0 ∷ (other_words s t ++ frame_words no_frame))

-- and with both counts of the levels as they are then
unfoldable pub raised : Sizes → List ℕ → List ℕ
raised s t = put_counts (taller s) (spread s t)
