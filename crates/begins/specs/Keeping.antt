-- What a begin keeps, and what keeps its refusal.
use Rattle.std.specs.Prelude.{ℕ, ◌≡◌, refl, true, false, cond, eqb, Some}
use mathlib.Core.List.{List, [], ◌∷◌}
use Rattle.std.proofs.Math.Bool.{Bool}
use Rattle.std.proofs.Common.{eqb-true}
use Rattle.words.specs.declared.Level.{Level}
use Rattle.words.specs.declared.Queue.{Queue}
use Rattle.words.specs.declared.Node.{Node}
use Rattle.words.specs.declared.Sizes.{Sizes}
use Rattle.words.specs.declared.Word.TheVariants.{Use}
use Rattle.words.specs.Layout.{measured, has, rd, frame_of}
use Rattle.words.specs.Laws.{measured_wr, measured_put}
use Rattle.answers.specs.Said.{Said, refused, says}
use Rattle.conditions.specs.declared.Sought.TheVariants.{Running, DequeueOn}
use Rattle.conditions.specs.Conditions.{first_of, sought, no_level, no_queue, no_node, busy, in_use, dequeued}
use Rattle.conditions.specs.Laws.{some_same, has_node}
use Rattle.begins.specs.Begin.{unless, enqueue_why, enqueue_sized, dequeue_why, dequeue_sized}
use Rattle.begins.specs.Laws.{enqueues}

-- ---- a begin keeps the table's sizes

unless_kept : (s : Sizes) (why : ℕ) (t new : List ℕ) → measured t ≡ Some s → (why ≡ 0 → measured new ≡ Some s)
    → measured (unless why t new).1 ≡ Some s
unfolding unless
unless_kept s why t new m h = by (eqb why 0) refl
  where
    by : (b : Bool) → eqb why 0 ≡ b → measured (cond {A = Said Unit × List ℕ} b (says tt, new) (refused why, t)).1 ≡ Some s
    by true e = h (eqb-true why 0 e)
    by false e = m

pub enqueue_kept : (s : Sizes) (t : List ℕ) (l : Level) (q : Queue) (n : Node) → measured t ≡ Some s
    → measured (enqueue_sized s t l q n).1 ≡ Some s
unfolding enqueue_sized
enqueue_kept s t l q n m =
    unless_kept s (enqueue_why s t l q n) t _ m
    (λ e. measured_wr s _ (Use n) q.0 (measured_put s t l _ m) (enqueues s t l q n e).has_n)

pub dequeue_kept : (s : Sizes) (t : List ℕ) (l : Level) (q : Queue) → measured t ≡ Some s → measured (dequeue_sized s t l q).1 ≡ Some s
unfolding dequeue_sized
dequeue_kept s t l q m = unless_kept s (dequeue_why s t l q) t _ m (λ e. measured_put s t l _ m)

-- ---- a refusal depends on the ops and queues of the frames and on the node's use

module _ (s : Sizes) (t u : List ℕ) (ops : (k : Level) → (frame_of s u k).op ≡ (frame_of s t k).op) where
  busy_same : (l : Level) → busy s u l ≡ busy s t l
  unfolding busy sought
  busy_same l = some_same s t u Running (λ k. rw (ops k)) l.0 _

  use_same : (n : Node) → rd s u (Use n) ≡ rd s t (Use n) → in_use s u n ≡ in_use s t n
  unfolding in_use
  use_same n e = rw e

  pub enqueue_same : (l : Level) (q : Queue) (n : Node)
      → ((k : Node) → has s (Use k) ≡ true → rd s u (Use k) ≡ rd s t (Use k))
      → enqueue_why s u l q n ≡ enqueue_why s t l q n
  unfolding enqueue_why
  enqueue_same l q n uses = rw (busy_same l) (by (no_node s n) refl)
    where
      conditions : Bool → Bool → List (ℕ × Bool)
      conditions no_node in_use = (3, no_level s l) ∷ (4, no_queue s q) ∷ (5, no_node) ∷ (6, busy s t l) ∷ (7, in_use) ∷ []

      by : (b : Bool) → no_node s n ≡ b → first_of (conditions b (in_use s u n)) ≡ first_of (conditions b (in_use s t n))
      by true e = refl
      by false e = rw (use_same n (uses n (has_node s n e)))

  pub dequeue_same : (l : Level) (q : Queue) → ((k : Level) → (frame_of s u k).queue.0 ≡ (frame_of s t k).queue.0)
      → dequeue_why s u l q ≡ dequeue_why s t l q
  unfolding dequeue_why dequeued sought
  dequeue_same l q queues = rw (busy_same l, some_same s t u (DequeueOn q) (λ k. rw (ops k, queues k)) 0 l.0)
