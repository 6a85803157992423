-- Beginning an enqueue or a dequeue: what is answered, and the table afterwards.
use Rattle.std.specs.Prelude.{ℕ, List, [], ◌∷◌, cond, eqb, Option, Some, None}
use Rattle.words.specs.declared.Level.{Level}
use Rattle.words.specs.declared.Queue.{Queue}
use Rattle.words.specs.declared.Node.{Node}
use Rattle.words.specs.declared.Sizes.{Sizes}
use Rattle.words.specs.declared.Frame.{Frame}
use Rattle.words.specs.declared.Word.TheVariants.{Use}
use Rattle.words.specs.Layout.{level, node, measured, wr, put_frame}
use Rattle.answers.specs.Said.{Said, refused, says}
use Rattle.table.specs.Points.{Point, E1, D1, number_of}
use Rattle.table.specs.Frames.{frame}
use Rattle.conditions.specs.Conditions.{first_of, no_level, no_queue, no_node, busy, in_use, dequeued}

-- the frame of an operation that begins: op, point, queue, node, the others 0
abbrev pub begun_at : ℕ → ℕ → Queue → Node → Frame
begun_at op point q n = frame op point q n (level 0) (node 0) (node 0) (node 0) (node 0) (level 0) 0

abbrev pub begun : ℕ → Point → Queue → Node → Frame
begun op x q n = begun_at op (number_of x) q n

-- the table t with the operation begun, or t as it was and the refusal
unfoldable pub unless : ℕ → List ℕ → List ℕ → Said Unit × List ℕ
unless why t new = cond (eqb why 0) (says tt, new) (refused why, t)

-- 3, 4, 5, 6, 7, the first that holds
unfoldable pub enqueue_why : Sizes → List ℕ → Level → Queue → Node → ℕ
enqueue_why s t l q n =
    first_of ((3, no_level s l) ∷ (4, no_queue s q) ∷ (5, no_node s n) ∷ (6, busy s t l) ∷ (7, in_use s t n) ∷ [])

unfoldable pub enqueue_sized : Sizes → List ℕ → Level → Queue → Node → Said Unit × List ℕ
enqueue_sized s t l q n = unless (enqueue_why s t l q n) t (wr s (put_frame s t l (begun 1 E1 q n)) (Use n) q.0)

unfoldable pub enqueue_measured : List ℕ → Level → Queue → Node → Option Sizes → Said Unit × List ℕ
enqueue_measured t l q n None = (refused 1, t)
enqueue_measured t l q n (Some s) = enqueue_sized s t l q n

-- refusals 1, 3, 4, 5, 6, 7
unfoldable pub enqueue_of : List ℕ → Level → Queue → Node → Said Unit × List ℕ
enqueue_of t l q n = enqueue_measured t l q n (measured t)

-- 3, 4, 6, 8, the first that holds
unfoldable pub dequeue_why : Sizes → List ℕ → Level → Queue → ℕ
dequeue_why s t l q = first_of ((3, no_level s l) ∷ (4, no_queue s q) ∷ (6, busy s t l) ∷ (8, dequeued s t l q) ∷ [])

unfoldable pub dequeue_sized : Sizes → List ℕ → Level → Queue → Said Unit × List ℕ
dequeue_sized s t l q = unless (dequeue_why s t l q) t (put_frame s t l (begun 2 D1 q (node 0)))

unfoldable pub dequeue_measured : List ℕ → Level → Queue → Option Sizes → Said Unit × List ℕ
dequeue_measured t l q None = (refused 1, t)
dequeue_measured t l q (Some s) = dequeue_sized s t l q

-- refusals 1, 3, 4, 6, 8
unfoldable pub dequeue_of : List ℕ → Level → Queue → Said Unit × List ℕ
dequeue_of t l q = dequeue_measured t l q (measured t)
