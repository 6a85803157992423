-- A fresh table.
use Rattle.std.specs.Prelude.{ℕ, zero, suc, List, ◌++◌, cond, not, length, replicate, drop, ltb}
use Rattle.words.specs.declared.Sizes.{Sizes}
use Rattle.words.specs.declared.Word.TheVariants.{Head, Tail}
use Rattle.words.specs.Layout.{queue, limits, words, wr, put_counts}
use Rattle.answers.specs.Said.{Said, refused, says}

-- the table's words 0, the words past its end as they were
abbrev pub cleared : Sizes → List ℕ → List ℕ
cleared s t = replicate (words s) 0 ++ drop (words s) t

-- head and tail of the queues 1..n, both the queue's own number
unfoldable pub ended : Sizes → ℕ → List ℕ → List ℕ
ended s zero t = t
ended s (suc n) t = wr s (wr s (ended s n t) (Head (queue (suc n))) (suc n)) (Tail (queue (suc n))) (suc n)

-- counts as given, every other word 0, except head and tail of each queue
unfoldable pub fresh_table : Sizes → List ℕ → List ℕ
fresh_table s t = put_counts s (ended s s.queues (cleared s t))

-- refusals 2, 1
unfoldable pub fresh_of : Sizes → List ℕ → Said Unit × List ℕ
fresh_of s t =
    cond (not (limits s)) (refused 2, t) (cond (ltb (length t) (words s)) (refused 1, t) (says tt, fresh_table s t))
