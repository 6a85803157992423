-- What holds of a fresh table.
use Prim.Native.Nat.{ℕ, zero, suc, ◌+◌, ◌-◌, ◌≤◌, ◌<◌}
use Rattle.std.proofs.Math.Path.{◌≡◌, refl, sym, ap}
use Rattle.std.proofs.Common.{◌∙◌, eq-or-lt_of_le, add-one, length-append, length-drop, get_or-append-add, get_or-drop}
use Rattle.std.specs.Prelude.{◌≢◌, List, ◌++◌, true, length, replicate, drop, get_or, Some}
use Rattle.std.proofs.Math.Logic.{⊎_elim}
use native.Mathlib.Omega.{arith}
use Rattle.std.proofs.lemmas.List.{length-replicate, get_or-replicate}
use Rattle.std.proofs.Math.ListN.{get_or-append}
use Rattle.words.specs.declared.Level.{Level}
use Rattle.words.specs.declared.Sizes.{Sizes}
use Rattle.words.specs.declared.Word.{Word}
use Rattle.words.specs.declared.Word.TheVariants.{LevelNode, LevelQueue, Head, Tail, Next, Use}
use Rattle.words.specs.Layout.{queue, limits, words, measured, has, rd, wr, frame_of, no_frame}
use Rattle.words.specs.Laws.{
  Bound,
  bound,
  has_is,
  rd_same,
  rd_other,
  frame_wr,
  wr_length,
  wr_past,
  rd_zero,
  frame_zero,
  rd_counts,
  frame_counts,
  counts_length,
  counts_past,
  measured_counts,
}
use Rattle.fresh.specs.Fresh.{cleared, ended, fresh_table}

-- one queue more has its ends written
pub ended_more : (s : Sizes) (t₀ t u v : List ℕ) (i : ℕ) → t ≡ ended s i t₀ → u ≡ wr s t (Head (queue (i + 1))) (i + 1)
    → v ≡ wr s u (Tail (queue (i + 1))) (i + 1) → v ≡ ended s (i + 1) t₀
unfolding ended
ended_more s t₀ t u v i h k m = rw (m, k, h, add-one)

-- what a fresh table's word holds: head and tail of queue q are q, every other word 0
abbrev pub fresh_word : Word → ℕ
fresh_word (LevelNode l) = 0
fresh_word (LevelQueue l) = 0
fresh_word (Head q) = q.0
fresh_word (Tail q) = q.0
fresh_word (Next n) = 0
fresh_word (Use n) = 0

fresh_word_in : (s : Sizes) (w : Word) → Bound s w → fresh_word w ≤ s.queues
unfolding Bound
fresh_word_in s (LevelNode l) b = omega arith
fresh_word_in s (LevelQueue l) b = omega arith
fresh_word_in s (Head q) b = b.1
fresh_word_in s (Tail q) b = b.1
fresh_word_in s (Next n) b = omega arith
fresh_word_in s (Use n) b = omega arith

-- ---- after the ends of the queues 1..n were written

ended_length : (s : Sizes) (t : List ℕ) (n : ℕ) → length (ended s n t) ≡ length t
unfolding ended
ended_length s t zero = refl
ended_length s t (suc n) = simp wr_length (ended_length s t n)

module _ (s : Sizes) (t : List ℕ) (n : ℕ) (more : suc n ≤ s.queues) where
  abbrev head : Word
  head = Head (queue (suc n))

  abbrev tail : Word
  tail = Tail (queue (suc n))

  ends : (has s head ≡ true) × (has s tail ≡ true)
  unfolding Bound
  ends = (has_is s head (omega arith), has_is s tail (omega arith))

  last_past : (i : ℕ) → words s ≤ i → get_or (ended s (suc n) t) i 0 ≡ get_or (ended s n t) i 0
  unfolding ended
  last_past i p = wr_past s _ tail ends.1 (suc n) i p ∙ wr_past s _ head ends.0 (suc n) i p

  last_frame : (l : Level) → frame_of s (ended s (suc n) t) l ≡ frame_of s (ended s n t) l
  unfolding ended
  last_frame l = frame_wr s _ l tail ends.1 (suc n) ∙ frame_wr s _ l head ends.0 (suc n)

  module _ (room : words s ≤ length t) where
    long : words s ≤ length (ended s n t)
    long = rw ended_length room

    long_head : words s ≤ length (wr s (ended s n t) head (suc n))
    long_head = rw wr_length long

    last_other : (w : Word) → has s w ≡ true → w ≢ head → w ≢ tail → rd s (ended s (suc n) t) w ≡ rd s (ended s n t) w
    unfolding ended
    last_other w k nh nt =
        rd_other s _ long_head tail ends.1 w k nt (suc n) ∙ rd_other s _ long head ends.0 w k nh (suc n)

    last_own : (w : Word) → fresh_word w ≡ suc n → rd s (ended s (suc n) t) w ≡ suc n
    unfolding ended
    last_own (LevelNode l) e = absurd (omega arith)
    last_own (LevelQueue l) e = absurd (omega arith)
    last_own (Head q) e =
        let apart : head ≢ tail = λ z. let o : ◌≡◌ {A = ℕ} 0 1 = cc in omega arith in
        rw e (rd_other s _ long_head tail ends.1 head ends.0 apart (suc n) ∙ rd_same s _ long head ends.0 (suc n))
    last_own (Tail q) e = rw e (rd_same s _ long_head tail ends.1 (suc n))
    last_own (Next m) e = absurd (omega arith)
    last_own (Use m) e = absurd (omega arith)

module _ (s : Sizes) (t : List ℕ) where
  ended_past : (n : ℕ) → n ≤ s.queues → (i : ℕ) → words s ≤ i → get_or (ended s n t) i 0 ≡ get_or t i 0
  unfolding ended
  ended_past zero h i p = refl
  ended_past (suc n) h i p = last_past s t n h i p ∙ ended_past n (omega arith) i p

  ended_frame : (n : ℕ) → n ≤ s.queues → (l : Level) → frame_of s (ended s n t) l ≡ frame_of s t l
  unfolding ended
  ended_frame zero h l = refl
  ended_frame (suc n) h l = last_frame s t n h l ∙ ended_frame n (omega arith) l

  ended_rd : words s ≤ length t → ((w : Word) → has s w ≡ true → rd s t w ≡ 0)
      → (n : ℕ) → n ≤ s.queues → (w : Word) → has s w ≡ true → fresh_word w ≤ n → rd s (ended s n t) w ≡ fresh_word w
  unfolding ended
  ended_rd room zeros zero h w k i = zeros w k ∙ omega arith
  ended_rd room zeros (suc n) h w k i =
      ⊎_elim (λ e. last_own s t n h room w e ∙ sym e)
      (λ j. last_other s t n h room w k (λ e. omega (arith, ap fresh_word e)) (λ e. omega (arith, ap fresh_word e))
      ∙ ended_rd room zeros n (omega arith) w k (omega arith))
      (eq-or-lt_of_le i)

-- ---- a fresh table

fill_past : (n v : ℕ) (t : List ℕ) (i : ℕ) → n ≤ i → get_or (replicate n v ++ drop n t) i 0 ≡ get_or t i 0
fill_past n v t i p =
    let e : length (replicate n v) + (i - n) ≡ i = rw length-replicate (omega arith) in
    let f : n + (i - n) ≡ i = omega arith in
    rw e at (get_or-append-add (replicate n v) (drop n t) (i - n) 0) ∙ rw f at (get_or-drop n t (i - n) 0)

module _ (s : Sizes) (t : List ℕ) (lim : limits s ≡ true) (room : words s ≤ length t) where
  cleared_zero : (i : ℕ) → i < words s → get_or (cleared s t) i 0 ≡ 0
  cleared_zero i h =
      get_or-append (replicate (words s) 0) (drop (words s) t) 0 i (rw length-replicate h) ∙ get_or-replicate (words s) i 0 0 h

  cleared_length : length (cleared s t) ≡ length t
  cleared_length = simp (length-append, length-replicate, length-drop) (omega arith)

  cleared_room : words s ≤ length (cleared s t)
  cleared_room = rw cleared_length room

  pub fresh_length : length (fresh_table s t) ≡ length t
  unfolding fresh_table
  fresh_length = counts_length s _ ∙ ended_length s _ s.queues ∙ cleared_length

  pub fresh_past : (i : ℕ) → words s ≤ i → get_or (fresh_table s t) i 0 ≡ get_or t i 0
  unfolding fresh_table
  fresh_past i p = counts_past s _ i p ∙ ended_past s _ s.queues (omega arith) i p ∙ fill_past (words s) 0 t i p

  pub fresh_measured : measured (fresh_table s t) ≡ Some s
  unfolding fresh_table
  fresh_measured = measured_counts s _ lim (rw ended_length cleared_room)

  pub fresh_rd : (w : Word) → has s w ≡ true → rd s (fresh_table s t) w ≡ fresh_word w
  unfolding fresh_table
  fresh_rd w h =
      rd_counts s _ w h
      ∙ ended_rd s _ cleared_room (rd_zero s _ cleared_zero) s.queues (omega arith) w h (fresh_word_in s w (bound s w h))

  pub fresh_frame : (l : Level) → l.0 < s.levels → frame_of s (fresh_table s t) l ≡ no_frame
  unfolding fresh_table
  fresh_frame l h =
      frame_counts s _ l ∙ ended_frame s _ s.queues (omega arith) l ∙ frame_zero s _ cleared_zero l h
