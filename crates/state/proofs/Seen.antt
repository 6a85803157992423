-- A store in the table is a store in the memory that is seen in it, and a frame put is that level's frame.
use Prim.Native.Nat.{ℕ, ◌≤◌, ◌<◌}
use mathlib.Core.Path.{◌≡◌, refl, sym, ap, ◌∙◌, fun_ext}
use mathlib.Core.Logic.{◌≢◌}
use mathlib.Core.Bool.{Bool, true, false, cond, ◌&&◌}
use mathlib.Core.List.{List}
use native.Mathlib.Omega.{arith}
use lib.Dec.{eqb, ltb, leb}
use lib.ListN.{length}
use borrow.Author.Tests.{ltb-true, ltb-false, lt-ltb, lt-leb}
use Rattle.words.specs.declared.Level.{Level}
use Rattle.words.specs.declared.Sizes.{Sizes}
use Rattle.words.specs.declared.Frame.{Frame}
use Rattle.words.specs.declared.Word.{Word}
use Rattle.words.specs.declared.Word.TheVariants.{LevelNode, LevelQueue, Head, Tail, Next, Use}
use Rattle.words.specs.Layout.{level, words, within, has, rd, wr, frame_of, put_frame, no_frame}
use Rattle.words.specs.Laws.{rd_same, rd_other, rd_put, frame_wr, frame_same, frame_other}
use Rattle.lists.specs.Count.{Same, same, apart, same?}
use Rattle.state.specs.Mem.{look, put, upd}
use Rattle.state.specs.View.{seen, level_node, level_queue, head_of, tail_of, next_of, use_of, column, memory, frames}

-- ---- reading

pub look_seen : (s : Sizes) (t : List ℕ) (w : Word) → look (memory s t) w ≡ seen s t w
unfolding memory
look_seen s t (LevelNode l) = refl
look_seen s t (LevelQueue l) = refl
look_seen s t (Head q) = refl
look_seen s t (Tail q) = refl
look_seen s t (Next n) = refl
look_seen s t (Use n) = refl

pub look_rd : (s : Sizes) (t : List ℕ) (w : Word) → has s w ≡ true → look (memory s t) w ≡ rd s t w
unfolding seen
look_rd s t w h = look_seen s t w ∙ rw h

pub frame_is : (s : Sizes) (t : List ℕ) (l : ℕ) → l < s.levels → frames s t l ≡ frame_of s t (level l)
unfolding frames
frame_is s t l h = rw (lt-ltb l s.levels h)

-- a level of the table that runs nothing runs nothing here, and so does one that is none of the table's
pub frame_idle : (s : Sizes) (t : List ℕ) (l : ℕ) → (l < s.levels → (frame_of s t (level l)).op ≡ 0) → (frames s t l).op ≡ 0
unfolding frames
frame_idle s t l h = by (ltb l s.levels) refl
  where
    by : (b : Bool) → ltb l s.levels ≡ b → (cond b (frame_of s t (level l)) no_frame).op ≡ 0
    by true e = h (ltb-true l s.levels e)
    by false e = refl

-- a node that is none of the table's is no queue's
pub uses_past : (s : Sizes) (t : List ℕ) (n : ℕ) → s.nodes < n → (memory s t).uses n ≡ 0
unfolding memory seen has within
uses_past s t n h = by (leb 1 n) (leb n s.nodes) (lt-leb n s.nodes h)
  where
    by : (a b : Bool) → b ≡ false → cond (a && b) (rd s t (use_of n)) 0 ≡ 0
    by true false e = refl
    by false b e = refl
    by true true e = let z : ◌≡◌ {A = ℕ} 0 1 = cc in absurd (omega arith)

-- tables with the same words are the same memory
pub memory_same : (s : Sizes) (u t : List ℕ) → ((w : Word) → has s w ≡ true → rd s u w ≡ rd s t w) → memory s u ≡ memory s t
unfolding memory seen
memory_same s u t h =
    λ i. record {
      ln = kept level_node i;
      lq = kept level_queue i;
      head = kept head_of i;
      tail = kept tail_of i;
      next = kept next_of i;
      uses = kept use_of i;
    }
  where
    one : (w : Word) → seen s u w ≡ seen s t w
    one w = by (has s w) refl
      where
        by : (b : Bool) → has s w ≡ b → cond b (rd s u w) 0 ≡ cond b (rd s t w) 0
        by true k = h w k
        by false k = refl

    kept : (mk : ℕ → Word) → column s u mk ≡ column s t mk
    kept mk = fun_ext (λ i. one (mk i))

-- ---- writing a word

-- which of the six a word is
abbrev kind : Word → ℕ
kind (LevelNode l) = 0
kind (LevelQueue l) = 1
kind (Head q) = 2
kind (Tail q) = 3
kind (Next n) = 4
kind (Use n) = 5

abbrev number : Word → ℕ
number (LevelNode l) = l.0
number (LevelQueue l) = l.0
number (Head q) = q.0
number (Tail q) = q.0
number (Next n) = n.0
number (Use n) = n.0

module _ (s : Sizes) (t : List ℕ) (room : words s ≤ length t) (w : Word) (h : has s w ≡ true) (v : ℕ) where
  seen_other : (u : Word) → u ≢ w → seen s (wr s t w v) u ≡ seen s t u
  unfolding seen
  seen_other u ne = by (has s u) refl
    where
      by : (b : Bool) → has s u ≡ b → cond b (rd s (wr s t w v) u) 0 ≡ cond b (rd s t u) 0
      by true k = rd_other s t room w h u k ne v
      by false k = refl

  seen_same : seen s (wr s t w v) w ≡ v
  unfolding seen
  seen_same = rw h (rd_same s t room w h v)

  -- words of another kind stay
  stays : (mk : ℕ → Word) → ((i : ℕ) → kind (mk i) ≢ kind w) → column s (wr s t w v) mk ≡ column s t mk
  stays mk ne = fun_ext (λ i. seen_other (mk i) (λ e. ne i (ap kind e)))

  -- words of its kind stay but for itself
  moves : (mk : ℕ → Word) → mk (number w) ≡ w → ((i : ℕ) → number (mk i) ≡ i)
      → column s (wr s t w v) mk ≡ put (column s t mk) (number w) v
  unfolding put
  moves mk e num = fun_ext (λ i. by i (eqb i (number w)) (same? i (number w)))
    where
      by : (i : ℕ) (b : Bool) → Same i (number w) b → seen s (wr s t w v) (mk i) ≡ cond b v (seen s t (mk i))
      by i true (same k) = ap (λ (j : ℕ). seen s (wr s t w v) (mk j)) k ∙ rw e seen_same
      by i false (apart k) = seen_other (mk i) (λ z. k (sym (num i) ∙ ap number z))

module _ (s : Sizes) (t : List ℕ) (room : words s ≤ length t) where
  -- a store in the table is a store in the memory
  pub memory_wr : (w : Word) → has s w ≡ true → (v : ℕ) → memory s (wr s t w v) ≡ upd (memory s t) w v
  unfolding memory
  memory_wr (LevelNode l) h v =
      let same = moves s t room (LevelNode l) h v level_node refl (λ j. refl) in
      let rest = stays s t room (LevelNode l) h v in
      λ i. record {
        ln = same i;
        lq = rest level_queue (omega arith) i;
        head = rest head_of (omega arith) i;
        tail = rest tail_of (omega arith) i;
        next = rest next_of (omega arith) i;
        uses = rest use_of (omega arith) i;
      }
  memory_wr (LevelQueue l) h v =
      let same = moves s t room (LevelQueue l) h v level_queue refl (λ j. refl) in
      let rest = stays s t room (LevelQueue l) h v in
      λ i. record {
        ln = rest level_node (omega arith) i;
        lq = same i;
        head = rest head_of (omega arith) i;
        tail = rest tail_of (omega arith) i;
        next = rest next_of (omega arith) i;
        uses = rest use_of (omega arith) i;
      }
  memory_wr (Head q) h v =
      let same = moves s t room (Head q) h v head_of refl (λ j. refl) in
      let rest = stays s t room (Head q) h v in
      λ i. record {
        ln = rest level_node (omega arith) i;
        lq = rest level_queue (omega arith) i;
        head = same i;
        tail = rest tail_of (omega arith) i;
        next = rest next_of (omega arith) i;
        uses = rest use_of (omega arith) i;
      }
  memory_wr (Tail q) h v =
      let same = moves s t room (Tail q) h v tail_of refl (λ j. refl) in
      let rest = stays s t room (Tail q) h v in
      λ i. record {
        ln = rest level_node (omega arith) i;
        lq = rest level_queue (omega arith) i;
        head = rest head_of (omega arith) i;
        tail = same i;
        next = rest next_of (omega arith) i;
        uses = rest use_of (omega arith) i;
      }
  memory_wr (Next n) h v =
      let same = moves s t room (Next n) h v next_of refl (λ j. refl) in
      let rest = stays s t room (Next n) h v in
      λ i. record {
        ln = rest level_node (omega arith) i;
        lq = rest level_queue (omega arith) i;
        head = rest head_of (omega arith) i;
        tail = rest tail_of (omega arith) i;
        next = same i;
        uses = rest use_of (omega arith) i;
      }
  memory_wr (Use n) h v =
      let same = moves s t room (Use n) h v use_of refl (λ j. refl) in
      let rest = stays s t room (Use n) h v in
      λ i. record {
        ln = rest level_node (omega arith) i;
        lq = rest level_queue (omega arith) i;
        head = rest head_of (omega arith) i;
        tail = rest tail_of (omega arith) i;
        next = rest next_of (omega arith) i;
        uses = same i;
      }

  -- and leaves the frames
  pub frames_wr : (w : Word) → has s w ≡ true → (v : ℕ) → frames s (wr s t w v) ≡ frames s t
  unfolding frames
  frames_wr w h v = fun_ext (λ l. ap (λ (f : Frame). cond (ltb l s.levels) f no_frame) (frame_wr s t (level l) w h v))

  -- ---- putting a frame

  -- a frame put leaves the memory
  pub memory_put : (l : Level) (g : Frame) → memory s (put_frame s t l g) ≡ memory s t
  memory_put l g = memory_same s (put_frame s t l g) t (rd_put s t l g)

  -- and is the level's frame from there on
  pub frames_put : (l : Level) → l.0 < s.levels → (g : Frame) → frames s (put_frame s t l g) ≡ put (frames s t) l.0 g
  unfolding frames put
  frames_put l h g = fun_ext (λ k. by k (eqb k l.0) (same? k l.0) (ltb k s.levels) refl)
    where
      by : (k : ℕ) (a : Bool) → Same k l.0 a → (b : Bool) → ltb k s.levels ≡ b
          → cond b (frame_of s (put_frame s t l g) (level k)) no_frame ≡ cond a g (cond b (frame_of s t (level k)) no_frame)
      by k true (same e) true q = ap (λ (j : ℕ). frame_of s (put_frame s t l g) (level j)) e ∙ frame_same s t l g room h
      by k true (same e) false q = absurd (omega (arith, ltb-false k s.levels q))
      by k false (apart e) true q = frame_other s t l g (level k) e
      by k false (apart e) false q = refl
