-- Seen as memory and frames the copy is the table.
use Prim.Native.Nat.{ℕ, suc, ◌≤◌}
use mathlib.Core.Path.{◌≡◌, refl, sym, ◌∙◌, fun_ext}
use mathlib.Core.Bool.{Bool, true, false, cond, false≢true}
use mathlib.Core.List.{List}
use native.Mathlib.Omega.{arith}
use lib.Dec.{ltb}
use lib.ListN.{length}
use borrow.Author.Tests.{ltb-true, ltb-false}
use Rattle.words.specs.declared.Sizes.{Sizes}
use Rattle.words.specs.declared.Word.{Word}
use Rattle.words.specs.Layout.{level, words, has, rd, frame_of, no_frame}
use Rattle.words.specs.Copy.{taller, raised}
use Rattle.words.specs.Copies.{taller_has, raised_word, raised_node, raised_queue, raised_frame, raised_idle, raised_length}
use Rattle.state.specs.View.{seen, level_node, level_queue, head_of, tail_of, next_of, use_of, memory, frames}

-- only the level on top is new
new_level : (s : Sizes) (j : ℕ) → ltb j (suc s.levels) ≡ true → ltb j s.levels ≡ false → j ≡ s.levels
new_level s j e f =
    let below = ltb-true j (suc s.levels) e in
    let above = ltb-false j s.levels f in
    omega arith

module _ (s : Sizes) (t : List ℕ) (room : words s ≤ length t) where
  -- a word of both, or one of the copy alone that is 0
  word_raised : (w : Word) → (has (taller s) w ≡ true → has s w ≡ false → rd (taller s) (raised s t) w ≡ 0)
      → seen (taller s) (raised s t) w ≡ seen s t w
  unfolding seen
  word_raised w new = by (has (taller s) w) refl (has s w) refl
    where
      by : (x : Bool) → has (taller s) w ≡ x → (y : Bool) → has s w ≡ y
          → cond x (rd (taller s) (raised s t) w) 0 ≡ cond y (rd s t w) 0
      by true e true f = raised_word s t room w f
      by true e false f = new e f
      by false e true f = absurd (false≢true (sym e ∙ taller_has s w f))
      by false e false f = refl

  -- the words of queues and nodes are none of the new level's
  same_raised : (w : Word) → has (taller s) w ≡ has s w → seen (taller s) (raised s t) w ≡ seen s t w
  same_raised w e = word_raised w (λ yes no. absurd (false≢true (sym no ∙ sym e ∙ yes)))

  node_raised : (j : ℕ) → seen (taller s) (raised s t) (level_node j) ≡ seen s t (level_node j)
  unfolding has
  node_raised j = word_raised (level_node j) (λ yes no. rw (new_level s j yes no) (raised_node s t room))

  queue_raised : (j : ℕ) → seen (taller s) (raised s t) (level_queue j) ≡ seen s t (level_queue j)
  unfolding has
  queue_raised j = word_raised (level_queue j) (λ yes no. rw (new_level s j yes no) (raised_queue s t room))

  pub memory_raised : memory (taller s) (raised s t) ≡ memory s t
  unfolding memory has
  memory_raised = λ i. record {
    ln = fun_ext node_raised i;
    lq = fun_ext queue_raised i;
    head = fun_ext (λ (j : ℕ). same_raised (head_of j) refl) i;
    tail = fun_ext (λ (j : ℕ). same_raised (tail_of j) refl) i;
    next = fun_ext (λ (j : ℕ). same_raised (next_of j) refl) i;
    uses = fun_ext (λ (j : ℕ). same_raised (use_of j) refl) i;
  }

  pub frames_raised : frames (taller s) (raised s t) ≡ frames s t
  unfolding frames
  frames_raised = fun_ext (λ (l : ℕ). by l (ltb l (suc s.levels)) refl (ltb l s.levels) refl)
    where
      by : (l : ℕ) (x : Bool) → ltb l (suc s.levels) ≡ x → (y : Bool) → ltb l s.levels ≡ y
          → cond x (frame_of (taller s) (raised s t) (level l)) no_frame ≡ cond y (frame_of s t (level l)) no_frame
      by l true e true f = raised_frame s t room l (ltb-true l s.levels f)
      by l true e false f = rw (new_level s l e f) (raised_idle s t room)
      by l false e true f = absurd (omega (arith, ltb-false l (suc s.levels) e, ltb-true l s.levels f))
      by l false e false f = refl

  pub room_raised : words (taller s) ≤ length (raised s t)
  room_raised = omega (arith, raised_length s t room)
