-- The queues are apart: a step or a begin on one queue moves nothing of another.
use Prim.Native.Nat.{ℕ, ◌≤◌, ◌<◌}
use mathlib.Core.Path.{◌≡◌, refl, sym, ap, ◌∙◌}
use mathlib.Core.Logic.{◌≢◌, ◌⊎◌, inl, inr}
use mathlib.Core.Bool.{Bool, true, false, cond}
use native.Mathlib.Omega.{arith}
use lib.Dec.{ltb, eqb}
use borrow.Author.Tests.{ne_eqb, lt-ltb}
use Rattle.words.specs.declared.Sizes.{Sizes}
use Rattle.words.specs.declared.Frame.{Frame}
use Rattle.words.specs.declared.Word.{Word}
use Rattle.words.specs.declared.Word.TheVariants.{LevelNode, LevelQueue, Head, Tail, Next, Use}
use Rattle.words.specs.Layout.{node}
use Rattle.table.specs.Table.{Row}
use Rattle.lists.specs.Count.{Same, same, apart, same?, hit}
use Rattle.state.specs.Mem.{Mem, put, put_same, put_other, upd}
use Rattle.state.specs.Step.{State, mem_after, row_of, stepped}
use Rattle.demand.proofs.Rows.{next_frame, next_on}
use Rattle.state.specs.Queues.{On, own, Mine, Within, load, store, free, Alike, still, others, Apart}

-- ---- nodes

hit_one : (a b : ℕ) → hit (eqb a b) ≡ 1 → a ≡ b
hit_one a b h = by (eqb a b) (same? a b) h
  where
    by : (t : Bool) → Same a b t → hit t ≡ 1 → a ≡ b
    by true (same e) h = e
    by false (apart e) h = absurd (omega arith)

-- a node belongs to one queue at most
pub own_one : (Q : ℕ) (u : ℕ → ℕ) (q r x : ℕ) → own Q u q x ≡ 1 → own Q u r x ≡ 1 → q ≡ r
unfolding own
own_one Q u q r x = by (ltb Q x)
  where
    by : (b : Bool) → cond b (hit (eqb (u x) q)) (hit (eqb x q)) ≡ 1 → cond b (hit (eqb (u x) r)) (hit (eqb x r)) ≡ 1 → q ≡ r
    by true h k = sym (hit_one (u x) q h) ∙ hit_one (u x) r k
    by false h k = sym (hit_one x q h) ∙ hit_one x r k

-- a user's node belongs to the queue that its use names
pub own_use : (Q : ℕ) (u : ℕ → ℕ) (q x : ℕ) → Q < x → own Q u q x ≡ 1 → u x ≡ q
unfolding own
own_use Q u q x h e = by (ltb Q x) (lt-ltb Q x h) e
  where
    by : (b : Bool) → b ≡ true → cond b (hit (eqb (u x) q)) (hit (eqb x q)) ≡ 1 → u x ≡ q
    by true t e = hit_one (u x) q e
    by false t e = cc

-- a use word that named another queue or none, and does so again, makes no node a queue's
pub own_put : (Q : ℕ) (u : ℕ → ℕ) (q n v : ℕ) → u n ≢ q → v ≢ q → (x : ℕ) → own Q (put u n v) q x ≡ own Q u q x
unfolding own put
own_put Q u q n v h k x = by (ltb Q x) (eqb x n) (same? x n)
  where
    by : (a b : Bool) → Same x n b → cond a (hit (eqb (cond b v (u x)) q)) (hit (eqb x q)) ≡ cond a (hit (eqb (u x) q)) (hit (eqb x q))
    by false b s = refl
    by true false s = refl
    by true true (same e) = ap hit (ne_eqb v q k ∙ sym (ne_eqb (u x) q (λ z. h (sym (ap u e) ∙ z))))

-- ---- memory

-- at a level the memory is the same, or neither is queue q's
abbrev LevelKept : ℕ → State → Mem → ℕ → Type 0
LevelKept q S M j = ((M.ln j ≡ S.mem.ln j) × (M.lq j ≡ S.mem.lq j)) ⊎ ((¬ On q (S.frames j)) × (M.lq j ≢ q))

-- nothing of queue q is different in M
record Kept (s : Sizes) (q : ℕ) (S : State) (M : Mem) : Type 0 where
  head : M.head q ≡ S.mem.head q
  tail : M.tail q ≡ S.mem.tail q
  owns : (x : ℕ) → own s.queues M.uses q x ≡ own s.queues S.mem.uses q x
  next : (x : ℕ) → own s.queues S.mem.uses q x ≡ 1 → M.next x ≡ S.mem.next x
  level : (j : ℕ) → LevelKept q S M j

-- where no use word is different
kept : {s : Sizes} {q : ℕ} {S : State} (M : Mem) → M.uses ≡ S.mem.uses → M.head q ≡ S.mem.head q → M.tail q ≡ S.mem.tail q
    → ((x : ℕ) → own s.queues S.mem.uses q x ≡ 1 → M.next x ≡ S.mem.next x) → ((j : ℕ) → LevelKept q S M j) → Kept s q S M
kept {s} {q} M u h t n l =
    record { head = h; tail = t; owns = λ x. ap (λ (f : ℕ → ℕ). own s.queues f q x) u; next = n; level = l }

kept_same : (s : Sizes) (q : ℕ) (S : State) → Kept s q S S.mem
kept_same s q S = kept S.mem refl refl refl (λ x h. refl) (λ j. inl (refl, refl))

-- frames, and what is registered, on another queue
module _ (s : Sizes) (q r : ℕ) (S : State) (some : 1 ≤ q) (ne : q ≢ r) (reg : (j : ℕ) → S.mem.lq j ≡ q → On q (S.frames j)) where
  not_on : (f : Frame) → On r f → ¬ On q f
  not_on f h k = ne (sym k.1 ∙ h.1)

  not_named : (v : ℕ) → (v ≡ r) ⊎ (v ≡ 0) → v ≢ q
  not_named v (inl e) k = ne (sym k ∙ e)
  not_named v (inr e) k = omega arith

  -- a level's words are moved only where its frame is on the other queue
  level_moved : (k j : ℕ) (M : Mem) → On r (S.frames k) → (j ≢ k → (M.ln j ≡ S.mem.ln j) × (M.lq j ≡ S.mem.lq j))
      → (j ≡ k → M.lq j ≢ q) → LevelKept q S M j
  level_moved k j M h a b = by (eqb j k) (same? j k)
    where
      by : (t : Bool) → Same j k t → LevelKept q S M j
      by true (same e) = inr (not_on (S.frames j) (rw e h), b e)
      by false (apart e) = inl (a e)

  -- a store that stays within the other queue
  kept_store : (w : Word) (v : ℕ) → Mine s r S w v → Kept s q S (upd S.mem w v)
  kept_store (LevelNode k) v m =
      kept (upd S.mem (LevelNode k) v) refl refl refl (λ x h. refl)
      (λ j. level_moved k.0 j (upd S.mem (LevelNode k) v) m (λ e. (put_other S.mem.ln k.0 v j e, refl))
      (λ e z. not_on (S.frames j) (rw e m) (reg j z)))
  kept_store (LevelQueue k) v m =
      kept (upd S.mem (LevelQueue k) v) refl refl refl (λ x h. refl)
      (λ j. level_moved k.0 j (upd S.mem (LevelQueue k) v) m.0 (λ e. (refl, put_other S.mem.lq k.0 v j e))
      (λ e z. not_named v m.1 (sym (put_same S.mem.lq k.0 v) ∙ sym (ap (put S.mem.lq k.0 v) e) ∙ z)))
  kept_store (Head k) v m =
      kept (upd S.mem (Head k) v) refl (put_other S.mem.head k.0 v q (λ e. ne (e ∙ m))) refl (λ x h. refl) (λ j. inl (refl, refl))
  kept_store (Tail k) v m =
      kept (upd S.mem (Tail k) v) refl refl (put_other S.mem.tail k.0 v q (λ e. ne (e ∙ m))) (λ x h. refl) (λ j. inl (refl, refl))
  kept_store (Next n) v m =
      kept (upd S.mem (Next n) v) refl refl refl
      (λ x h. put_other S.mem.next n.0 v x (λ e. ne (own_one s.queues S.mem.uses q r n.0 (rw e at h) m)))
      (λ j. inl (refl, refl))
  kept_store (Use n) v m = absurd m

  -- a use word that named another queue or none, and does so again
  kept_use : (M : Mem) (n v : ℕ) → Kept s q S M → M.uses n ≢ q → v ≢ q → Kept s q S (upd M (Use (node n)) v)
  kept_use M n v k a b =
      record {
        head = k.head;
        tail = k.tail;
        owns = λ x. own_put s.queues M.uses q n v a b x ∙ k.owns x;
        next = k.next;
        level = k.level;
      }

  kept_row : (x : Row) → Within s r S x → Kept s q S (mem_after S.mem x)
  kept_row x (load b) = kept_same s q S
  kept_row x (store {w = w} {v = v} b m) = kept_store w v m
  kept_row x (free {n = n} low high o) =
      kept_use (upd S.mem (Next n) 0) n.0 0 (kept_store (Next n) 0 o)
      (λ e. ne (sym e ∙ own_use s.queues S.mem.uses r n.0 low o)) (λ e. omega arith)

  -- memory in which nothing of queue q is different, and a frame put that was not on q and is not
  apart_put : (M : Mem) (l : ℕ) (g : Frame) → Kept s q S M → ¬ On q (S.frames l) → ¬ On q g
      → Apart s q S (record { mem = M; frames = put S.frames l g })
  apart_put M l g k a b =
      record { head = k.head; tail = k.tail; owns = k.owns; next = k.next; level = λ j. by j (k.level j) (eqb j l) (same? j l) }
    where
      T : State
      T = record { mem = M; frames = put S.frames l g }

      off : (j : ℕ) → ¬ On q (S.frames j) → S.mem.lq j ≢ q
      off j n e = n (reg j e)

      by : (j : ℕ) → LevelKept q S M j → (t : Bool) → Same j l t → Alike q S T j
      by j (inl e) false (apart n) = still (put_other S.frames l g j n) e.0 e.1
      by j (inr h) false (apart n) = others h.0 (rw (put_other S.frames l g j n) h.0) (off j h.0) h.1
      by j (inl e) true (same n) = others (rw n a) (rw (n, put_same S.frames l g) b) (off j (rw n a)) (rw e.1 (off j (rw n a)))
      by j (inr h) true (same n) = others h.0 (rw (n, put_same S.frames l g) b) (off j h.0) h.1

  -- a step of a frame on the other queue
  pub apart_step : (levels l : ℕ) → On r (S.frames l) → Within s r S (row_of levels l (S.frames l)) → Apart s q S (stepped levels l S)
  apart_step levels l h w =
      apart_put (mem_after S.mem (row_of levels l (S.frames l))) l (next_frame S.mem levels l (S.frames l))
      (kept_row (row_of levels l (S.frames l)) w) (not_on (S.frames l) h)
      (λ k. not_on (S.frames l) h (next_on q S.mem levels l (S.frames l) k))

  -- a begin on the other queue: a dequeue, and an enqueue with its node's use
  pub apart_dequeue : (l : ℕ) (g : Frame) → ¬ On q (S.frames l) → On r g → Apart s q S (record { mem = S.mem; frames = put S.frames l g })
  apart_dequeue l g a b = apart_put S.mem l g (kept_same s q S) a (not_on g b)

  pub apart_enqueue : (l n : ℕ) (g : Frame) → ¬ On q (S.frames l) → On r g → S.mem.uses n ≡ 0
      → Apart s q S (record { mem = upd S.mem (Use (node n)) r; frames = put S.frames l g })
  apart_enqueue l n g a b u =
      apart_put (upd S.mem (Use (node n)) r) l g
      (kept_use S.mem n r (kept_same s q S) (λ e. omega arith) (λ e. ne (sym e))) a (not_on g b)
