-- A step that goes on keeps the level that is served: it keeps the op and the queue of its frame, every other frame and every node's use.
use Prim.Native.Nat.{ℕ, zero, suc, ◌≤◌, ◌<◌}
use Rattle.std.proofs.Math.Path.{◌≡◌, refl, ap}
use Rattle.std.proofs.Common.{sym, ◌∙◌}
use mathlib.Core.List.{List}
use Rattle.std.specs.Prelude.{Bool, cond, not, length, eqb, Option, Some, None}
use Rattle.std.proofs.Math.Bool.{true, false, false≢true}
use borrow.Author.Tests.{eqb-true, eqb-false, not-true}
use Rattle.words.specs.declared.Level.{Level}
use Rattle.words.specs.declared.Sizes.{Sizes}
use Rattle.words.specs.declared.Frame.{Frame}
use Rattle.words.specs.declared.Node.{Node}
use Rattle.words.specs.declared.Word.{Word}
use Rattle.words.specs.declared.Word.TheVariants as word
use Rattle.words.specs.Layout.{level, words, has, rd, wr, frame_of, put_frame}
use Rattle.words.specs.Laws.{has_use, rd_other, frame_wr, frame_same, frame_other, wr_length}
use Rattle.table.specs.Points as point
use Rattle.table.specs.Points.{Point, point_of}
use Rattle.table.specs.Frames.{counted, below_k_to, below_m_to, walk_to}
use Rattle.table.specs.Table.{Row, loads, stores, frees, nothing, row}
use Rattle.table.specs.Turn.{turned}
use Rattle.table.specs.Laws.{if_of, either}
use Rattle.table.specs.declared.After.{After}
use Rattle.table.specs.declared.After.TheVariants.{Go, Done}
use Rattle.steps.specs.Step.{serving, sound}
use Rattle.steps.specs.Held.{Held, Going, Damaged, followed, follow, held}

-- ---- the op and the queue of a frame that goes on

abbrev pub kind : Frame → ℕ × ℕ
kind f = (f.op, f.queue.0)

-- op and queue afterwards; o where the operation ended
unfoldable pub kind_after : ℕ × ℕ → After → ℕ × ℕ
kind_after o (Go g) = kind g
kind_after o (Done n) = o

-- what follows a row's access, where it loaded x
unfoldable pub kind_of : ℕ × ℕ → ℕ → Row → ℕ × ℕ
kind_of o x (loads w after) = kind_after o (after x)
kind_of o x (stores w v after) = kind_after o after
kind_of o x (frees n after) = kind_after o after
kind_of o x nothing = o

pub kind_kept : (p : Point) (f : Frame) (l top : Level) (x : ℕ) → kind_of (kind f) x (row p f l top) ≡ kind f
unfolding kind_of kind_after row below_k_to below_m_to walk_to
kind_kept =
    elim [
      | point.E1 ↦ λ f l top x. refl
      | point.E2 ↦ λ f l top x. simp (if_of (kind_after (kind f)), either)
      | point.E3 ↦ λ f l top x. simp (if_of (kind_after (kind f)), either)
      | point.E4 ↦ λ f l top x. refl
      | point.E5 ↦ λ f l top x. simp (if_of (kind_after (kind f)), either)
      | point.E6 ↦ λ f l top x. simp (if_of (kind_after (kind f)), either)
      | point.E7 ↦ λ f l top x. refl
      | point.E8 ↦ λ f l top x. simp (if_of (kind_after (kind f)), either)
      | point.E9 ↦ λ f l top x. refl
      | point.E10 ↦ λ f l top x. simp (if_of (kind_after (kind f)), either)
      | point.E11 ↦ λ f l top x. refl
      | point.E12 ↦ λ f l top x. refl
      | point.E13 ↦ λ f l top x. simp (if_of (kind_after (kind f)), either)
      | point.E14 ↦ λ f l top x. simp (if_of (kind_after (kind f)), either)
      | point.E15 ↦ λ f l top x. refl
      | point.E16 ↦ λ f l top x. simp (if_of (kind_after (kind f)), either)
      | point.E17 ↦ λ f l top x. refl
      | point.E18 ↦ λ f l top x. refl
      | point.E19 ↦ λ f l top x. simp (if_of (kind_after (kind f)), either)
      | point.E20 ↦ λ f l top x. refl
      | point.E21 ↦ λ f l top x. refl
      | point.E22 ↦ λ f l top x. refl
      | point.E23 ↦ λ f l top x. simp (if_of (kind_after (kind f)), either)
      | point.E24 ↦ λ f l top x. refl
      | point.E25 ↦ λ f l top x. simp (if_of (kind_after (kind f)), either)
      | point.E26 ↦ λ f l top x. refl
      | point.E27 ↦ λ f l top x. refl
      | point.E28 ↦ λ f l top x. refl
      | point.E29 ↦ λ f l top x. simp (if_of (kind_after (kind f)), either)
      | point.D1 ↦ λ f l top x. refl
      | point.D2 ↦ λ f l top x. simp (if_of (kind_after (kind f)), either)
      | point.D3 ↦ λ f l top x. simp (if_of (kind_after (kind f)), either)
      | point.D4 ↦ λ f l top x. refl
      | point.D5 ↦ λ f l top x. simp (if_of (kind_after (kind f)), either)
      | point.D6 ↦ λ f l top x. refl
      | point.D7 ↦ λ f l top x. refl
      | point.Unknown ↦ λ f l top x. refl
    ]

-- ---- the uses

unfoldable is_use : Word → Bool
is_use (word.LevelNode l) = false
is_use (word.LevelQueue l) = false
is_use (word.Head q) = false
is_use (word.Tail q) = false
is_use (word.Next n) = false
is_use (word.Use n) = true

-- a row that goes on stores no use
unfoldable spares : Row → Bool
spares (loads w after) = true
spares (stores w v after) = not (is_use w)
spares (frees n (Go g)) = false
spares (frees n (Done m)) = true
spares nothing = true

row_spares : (p : Point) (f : Frame) (l top : Level) → spares (row p f l top) ≡ true
unfolding spares is_use row
row_spares =
    elim [
      | point.E1 ↦ λ f l top. refl
      | point.E2 ↦ λ f l top. refl
      | point.E3 ↦ λ f l top. refl
      | point.E4 ↦ λ f l top. refl
      | point.E5 ↦ λ f l top. refl
      | point.E6 ↦ λ f l top. refl
      | point.E7 ↦ λ f l top. refl
      | point.E8 ↦ λ f l top. refl
      | point.E9 ↦ λ f l top. refl
      | point.E10 ↦ λ f l top. refl
      | point.E11 ↦ λ f l top. refl
      | point.E12 ↦ λ f l top. refl
      | point.E13 ↦ λ f l top. refl
      | point.E14 ↦ λ f l top. refl
      | point.E15 ↦ λ f l top. refl
      | point.E16 ↦ λ f l top. refl
      | point.E17 ↦ λ f l top. refl
      | point.E18 ↦ λ f l top. refl
      | point.E19 ↦ λ f l top. refl
      | point.E20 ↦ λ f l top. refl
      | point.E21 ↦ λ f l top. refl
      | point.E22 ↦ λ f l top. refl
      | point.E23 ↦ λ f l top. refl
      | point.E24 ↦ λ f l top. refl
      | point.E25 ↦ λ f l top. refl
      | point.E26 ↦ λ f l top. refl
      | point.E27 ↦ λ f l top. refl
      | point.E28 ↦ λ f l top. refl
      | point.E29 ↦ λ f l top. refl
      | point.D1 ↦ λ f l top. refl
      | point.D2 ↦ λ f l top. refl
      | point.D3 ↦ λ f l top. refl
      | point.D4 ↦ λ f l top. refl
      | point.D5 ↦ λ f l top. refl
      | point.D6 ↦ λ f l top. refl
      | point.D7 ↦ λ f l top. refl
      | point.Unknown ↦ λ f l top. refl
    ]

-- ---- a row's access keeps every frame

module _ (s : Sizes) (t : List ℕ) (room : words s ≤ length t) where
  -- every node's use is as it was
  abbrev Uses : List ℕ → Type 0
  Uses u = (n : Node) → has s (word.Use n) ≡ true → rd s u (word.Use n) ≡ rd s t (word.Use n)

  -- what an access leaves: the frames as they were, op and queue, and the uses
  record Kept (o : ℕ × ℕ) (x : Option After × List ℕ) : Type 0 where
    pub long : length x.1 ≡ length t
    pub frames : (k : Level) → frame_of s x.1 k ≡ frame_of s t k
    pub kinds : (g : Frame) → x.0 ≡ Some (Go g) → kind g ≡ o
    pub uses : (g : Frame) → x.0 ≡ Some (Go g) → Uses x.1

  kind_next : (o : ℕ × ℕ) (a : After) (g : Frame) → kind_after o a ≡ o → ◌≡◌ {A = Option After} (Some a) (Some (Go g)) → kind g ≡ o
  unfolding kind_after
  kind_next o a g e h = let z : a ≡ Go g = cc in rw z at e

  stray_kept : (o : ℕ × ℕ) → Kept o (None, t)
  stray_kept o =
      record {
        long = refl;
        frames = λ k. refl;
        kinds = λ g e. cc;
        uses = λ g e n h. refl;
      }

  stored_uses : (w : Word) (v : ℕ) (after : After) → has s w ≡ true → spares (stores w v after) ≡ true → Uses (wr s t w v)
  unfolding spares is_use
  stored_uses w v after h k n i =
      let no_use : is_use w ≡ false = not-true (is_use w) k in
      let apart : word.Use n ≡ w → ⊥ = λ e. false≢true (sym no_use ∙ ap is_use (sym e)) in
      rd_other s t room w h (word.Use n) i apart v

  freed_ends : (n : Node) (after : After) (g : Frame) → spares (frees n after) ≡ true → ◌≡◌ {A = Option After} (Some after) (Some (Go g)) → ⊥
  unfolding spares
  freed_ends n (Go h) g k e = false≢true k
  freed_ends n (Done m) g k e = cc

  turned_keeps : (o : ℕ × ℕ) (r : Row) → ((x : ℕ) → kind_of o x r ≡ o) → spares r ≡ true → Kept o (turned s t r)
  unfolding turned kind_of
  turned_keeps o (loads w after) h i = by (has s w)
    where
      by : (b : Bool) → Kept o (cond b (Some (after (rd s t w)), t) (None, t))
      by true =
          record {
            long = refl;
            frames = λ k. refl;
            kinds = λ g e. kind_next o (after (rd s t w)) g (h (rd s t w)) e;
            uses = λ g e n k. refl;
          }
      by false = stray_kept o
  turned_keeps o (stores w v after) h i = by (has s w) refl
    where
      by : (b : Bool) → has s w ≡ b → Kept o (cond b (Some after, wr s t w v) (None, t))
      by true e =
          record {
            long = wr_length s t w v;
            frames = λ k. frame_wr s t k w e v;
            kinds = λ g z. kind_next o after g (h 0) z;
            uses = λ g z. stored_uses w v after e i;
          }
      by false e = stray_kept o
  turned_keeps o (frees n after) h i = by (has s (word.Next n)) refl
    where
      by : (b : Bool) → has s (word.Next n) ≡ b → Kept o (cond b (Some after, wr s (wr s t (word.Next n) 0) (word.Use n) 0) (None, t))
      by true e =
          record {
            long = wr_length s (wr s t (word.Next n) 0) (word.Use n) 0 ∙ wr_length s t (word.Next n) 0;
            frames = λ k. frame_wr s (wr s t (word.Next n) 0) k (word.Use n) (has_use s n e) 0 ∙ frame_wr s t k (word.Next n) e 0;
            kinds = λ g z. kind_next o after g (h 0) z;
            uses = λ g z. absurd (freed_ends n after g i z);
          }
      by false e = stray_kept o
  turned_keeps o nothing h i = stray_kept o

  -- a held frame that goes on
  pub record Goes (f g : Frame) (u : List ℕ) : Type 0 where
    pub frames : (k : Level) → frame_of s u k ≡ frame_of s t k
    pub kinds : kind g ≡ kind f
    pub uses : Uses u

  going : (l : Level) (f g : Frame) (u : List ℕ) (x : Option After × List ℕ) → Kept (kind f) x
      → ◌≡◌ {A = Held × List ℕ} (follow l f x) (Going g, u)
      → Goes f g u
  unfolding followed
  going l f g u x k e = by x.0 k.kinds k.uses (ap (λ y. y.0) e)
    where
      at : x.1 ≡ u
      at = ap (λ (y : Held × List ℕ). y.1) e

      by : (y : Option After) → ((g : Frame) → y ≡ Some (Go g) → kind g ≡ kind f) → ((g : Frame) → y ≡ Some (Go g) → Uses x.1)
          → followed l f y ≡ Going g → Goes f g u
      by (Some (Go h)) o v z =
          let w : h ≡ g = cc in
          record { frames = λ k'. rw at at (k.frames k'); kinds = o g (rw w); uses = rw at at (v g (rw w)) }
      by (Some (Done n)) o v z = cc
      by None o v z = cc

  row_keeps : (l : Level) (f : Frame) → Kept (kind f) (turned s t (row (point_of f.point) f l (level s.levels)))
  row_keeps l f =
      let p = point_of f.point in
      let top = level s.levels in
      turned_keeps (kind f) (row p f l top) (kind_kept p f l top) (row_spares p f l top)

  pub held_goes : (l : Level) (f g : Frame) (u : List ℕ) → held s t l f ≡ (Going g, u) → Goes f g u
  unfolding held
  held_goes l f g u e = by (sound s f) e
    where
      x : Option After × List ℕ
      x = turned s t (row (point_of f.point) f l (level s.levels))

      by : (b : Bool) → ◌≡◌ {A = Held × List ℕ} (cond b (follow l f x) (Damaged, t)) (Going g, u) → Goes f g u
      by true h = going l f g u x (row_keeps l f) h
      by false h =
          let z : Damaged ≡ Going g = ap (λ (y : Held × List ℕ). y.0) h in
          cc

  -- whatever follows
  pub record Left (u : List ℕ) : Type 0 where
    pub long : length u ≡ length t
    pub frames : (k : Level) → frame_of s u k ≡ frame_of s t k

  pub held_leaves : (l : Level) (f : Frame) → Left (held s t l f).1
  unfolding held
  held_leaves l f = by (sound s f)
    where
      x : Option After × List ℕ
      x = turned s t (row (point_of f.point) f l (level s.levels))

      by : (b : Bool) → Left (cond {A = Held × List ℕ} b (follow l f x) (Damaged, t)).1
      by true = record { long = (row_keeps l f).long; frames = (row_keeps l f).frames }
      by false = record { long = refl; frames = λ k. refl }

-- ---- the level served

pub serving_same : (s : Sizes) (t u : List ℕ) (n : ℕ) → ((k : Level) → (frame_of s u k).op ≡ (frame_of s t k).op)
    → serving s u n ≡ serving s t n
unfolding serving
serving_same s t u zero h = refl
serving_same s t u (suc n) h = rw (h (level n), serving_same s t u n h)

-- a frame of the same op put at l, beside frames that are the same
pub serving_kept : (s : Sizes) (t u : List ℕ) (l : Level) (f g : Frame) → words s ≤ length t → words s ≤ length u → l.0 < s.levels
    → held s t l (counted f) ≡ (Going g, u) → serving s (put_frame s u l g) s.levels ≡ serving s (put_frame s t l f) s.levels
unfolding counted
serving_kept s t u l f g p q h e = serving_same s (put_frame s t l f) (put_frame s u l g) s.levels (λ k. by k (eqb k.0 l.0) refl)
  where
    on : Goes s t p (counted f) g u
    on = held_goes s t p l (counted f) g u e

    by : (k : Level) (b : Bool) → eqb k.0 l.0 ≡ b → (frame_of s (put_frame s u l g) k).op ≡ (frame_of s (put_frame s t l f) k).op
    by k true z =
        let same : k ≡ l = ap level (eqb-true k.0 l.0 z) in
        let after : (frame_of s (put_frame s u l g) l).op ≡ g.op = ap (λ (x : Frame). x.op) (frame_same s u l g q h) in
        let before : (frame_of s (put_frame s t l f) l).op ≡ f.op = ap (λ (x : Frame). x.op) (frame_same s t l f p h) in
        rw same (after ∙ ap (λ (x : ℕ × ℕ). x.0) on.kinds ∙ sym before)
    by k false z =
        let ne = eqb-false k.0 l.0 z in
        ap (λ (x : Frame). x.op) (frame_other s u l g k ne ∙ on.frames k ∙ sym (frame_other s t l f k ne))
