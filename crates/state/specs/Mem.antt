-- The table's words as six functions from numbers to numbers: what the theory of the step table reads and writes in place of a list.
use Rattle.std.specs.Prelude.{ℕ, ◌≡◌, refl, ◌≢◌, cond, eqb}
use Rattle.std.proofs.Common.{eq-eqb, ne_eqb}
use Rattle.words.specs.declared.Word.{Word}
use Rattle.words.specs.declared.Word.TheVariants.{LevelNode, LevelQueue, Head, Tail, Next, Use}

pub record Mem : Type 0 where
  pub ln : ℕ → ℕ
  pub lq : ℕ → ℕ
  pub head : ℕ → ℕ
  pub tail : ℕ → ℕ
  pub next : ℕ → ℕ
  pub uses : ℕ → ℕ

-- a function with another value at one place
unfoldable pub put : {A : Type 0} → (ℕ → A) → ℕ → A → ℕ → A
put f i v j = cond (eqb j i) v (f j)

pub put_same : {A : Type 0} (f : ℕ → A) (i : ℕ) (v : A) → put f i v i ≡ v
unfolding put
put_same f i v = rw (eq-eqb i i refl)

pub put_other : {A : Type 0} (f : ℕ → A) (i : ℕ) (v : A) (j : ℕ) → j ≢ i → put f i v j ≡ f j
unfolding put
put_other f i v j h = rw (ne_eqb j i h)

-- the word of this name
abbrev pub look : Mem → Word → ℕ
look M (LevelNode l) = M.ln l.0
look M (LevelQueue l) = M.lq l.0
look M (Head q) = M.head q.0
look M (Tail q) = M.tail q.0
look M (Next n) = M.next n.0
look M (Use n) = M.uses n.0

abbrev pub mem : (ℕ → ℕ) → (ℕ → ℕ) → (ℕ → ℕ) → (ℕ → ℕ) → (ℕ → ℕ) → (ℕ → ℕ) → Mem
mem ln lq head tail next uses = record { ln = ln; lq = lq; head = head; tail = tail; next = next; uses = uses }

-- the memory with another value in the word of this name
abbrev pub upd : Mem → Word → ℕ → Mem
upd M (LevelNode l) v = mem (put M.ln l.0 v) M.lq M.head M.tail M.next M.uses
upd M (LevelQueue l) v = mem M.ln (put M.lq l.0 v) M.head M.tail M.next M.uses
upd M (Head q) v = mem M.ln M.lq (put M.head q.0 v) M.tail M.next M.uses
upd M (Tail q) v = mem M.ln M.lq M.head (put M.tail q.0 v) M.next M.uses
upd M (Next n) v = mem M.ln M.lq M.head M.tail (put M.next n.0 v) M.uses
upd M (Use n) v = mem M.ln M.lq M.head M.tail M.next (put M.uses n.0 v)
