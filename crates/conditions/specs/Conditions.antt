-- The refusals of document 01 that several calls share, each by its condition, and the first of a list of them.
use Rattle.std.specs.Prelude.{ℕ, zero, suc, ◌+◌, ◌-◌, List, [], ◌∷◌, Bool, false, cond, not, ◌&&◌, ◌||◌, leb, eqb}
use Rattle.words.specs.declared.Level.{Level}
use Rattle.words.specs.declared.Queue.{Queue}
use Rattle.words.specs.declared.Node.{Node}
use Rattle.words.specs.declared.Sizes.{Sizes}
use Rattle.words.specs.declared.Frame.{Frame}
use Rattle.words.specs.declared.Word.TheVariants.{Use}
use Rattle.words.specs.Layout.{level, within, rd, frame_of}
use Rattle.conditions.specs.declared.Sought.{Sought}
use Rattle.conditions.specs.declared.Sought.TheVariants.{Running, RunningOn, DequeueOn}

-- the number of the first refusal whose condition holds; 0 where none does
abbrev pub first_of : List (ℕ × Bool) → ℕ
first_of [] = 0
first_of (r ∷ rs) = cond r.1 r.0 (first_of rs)

-- what is sought among the frames: op not 0; that on this queue; op 2 on this queue
unfoldable pub sought : Sought → Frame → Bool
sought Running f = not (eqb f.op 0)
sought (RunningOn q) f = not (eqb f.op 0) && eqb f.queue.0 q.0
sought (DequeueOn q) f = eqb f.op 2 && eqb f.queue.0 q.0

-- one of the n frames from level i on is sought
unfoldable pub some : Sizes → List ℕ → Sought → ℕ → ℕ → Bool
some s t w i zero = false
some s t w i (suc n) = sought w (frame_of s t (level i)) || some s t w (i + 1) n

-- 3: level not below L
unfoldable pub no_level : Sizes → Level → Bool
no_level s l = leb s.levels l.0

-- 4: queue not 1..Q
unfoldable pub no_queue : Sizes → Queue → Bool
no_queue s q = not (within 1 s.queues q.0)

-- 5: node not Q+1..N
unfoldable pub no_node : Sizes → Node → Bool
no_node s n = not (within (s.queues + 1) s.nodes n.0)

-- 6: an op word at this level or above is not 0
unfoldable pub busy : Sizes → List ℕ → Level → Bool
busy s t l = some s t Running l.0 (s.levels - l.0)

-- 7: the node's use is not 0
unfoldable pub in_use : Sizes → List ℕ → Node → Bool
in_use s t n = not (eqb (rd s t (Use n)) 0)

-- 8: a lower level's op is 2 on this queue
unfoldable pub dequeued : Sizes → List ℕ → Level → Queue → Bool
dequeued s t l q = some s t (DequeueOn q) 0 l.0

-- 11, and the queue is not quiet: some frame with op not 0 has this queue
unfoldable pub unquiet : Sizes → List ℕ → Queue → Bool
unquiet s t q = some s t (RunningOn q) 0 s.levels
