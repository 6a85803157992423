-- The nodes whose use names a queue: those that are handed in and not returned, the sentinel left aside.
use Rattle.std.specs.Prelude.{ℕ, zero, suc, ◌+◌, List, cond, eqb}
use Rattle.words.specs.declared.Queue.{Queue}
use Rattle.words.specs.declared.Sizes.{Sizes}
use Rattle.words.specs.declared.Word.TheVariants.{Use}
use Rattle.words.specs.Layout.{node, rd}

-- 1 where node n's use names the queue
unfoldable pub named : Sizes → List ℕ → Queue → ℕ → ℕ
named s t q n = cond (eqb (rd s t (Use (node n))) q.0) 1 0

-- how many of the nodes 1..n
unfoldable pub naming : Sizes → List ℕ → Queue → ℕ → ℕ
naming s t q zero = 0
naming s t q (suc n) = naming s t q n + named s t q (suc n)
