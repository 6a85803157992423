-- What holds of the table's words wherever they stand: the crates above cite these and never the layout.
use Rattle.std.specs.Prelude.{ℕ, zero, suc, ◌+◌, ◌-◌, ◌*◌, ◌≤◌, ◌<◌, ◌≡◌, ◌≢◌, Bool, true, false, cond, ◌&&◌, length, get_or, set, drop, leb, eqb}
use Rattle.std.proofs.Math.Path.{refl, sym}
use Rattle.std.proofs.Common.{ap, subst, ◌∙◌, arith, add-suc, add-zero, add-one, length-set, get_or-drop, set-set, ltb-true, leb-true, eqb-true, le-leb, lt-ltb, eq-eqb}
use mathlib.Core.List.{List, [], ◌∷◌}
use Rattle.std.proofs.lemmas.List.Edits.{sets}
use Rattle.std.proofs.Math.Seq.{length-sets, get_or-set_same, get_or-set_other}
use Rattle.std.proofs.lemmas.List.{set_comm}
use Rattle.words.specs.declared.Level.{Level}
use Rattle.words.specs.declared.Node.{Node}
use Rattle.words.specs.declared.Sizes.{Sizes}
use Rattle.words.specs.declared.Frame.{Frame}
use Rattle.words.specs.declared.Word.{Word}
use Rattle.words.specs.declared.Word.TheVariants.{LevelNode, LevelQueue, Head, Tail, Next, Use}
use Rattle.std.specs.Prelude.{Some, None}
use Rattle.words.specs.Layout.{
  level,
  queue,
  node,
  within,
  limits,
  words,
  levels_at,
  queues_at,
  nodes_at,
  frames_at,
  sizes_of,
  agrees,
  levels_again,
  put_counts,
  measured,
  has,
  addr,
  rd,
  wr,
  frame_at,
  frame_from,
  frame_words,
  frame_of,
  put_frame,
  no_frame,
}
use Rattle.words.specs.Inner.{Small, Fits}

-- ---- tests

-- a test's meaning, from what a call ensures of its answer and the way that was taken on it
pub told : {A : Type 0} {b x v : A} → b ≡ x → b ≡ v → x ≡ v
told p q = sym p ∙ q

pub and_true : (a b : Bool) → a && b ≡ true → (a ≡ true) × (b ≡ true)
and_true true b h = (refl, h)
and_true false b h = let z : ◌≡◌ {A = ℕ} 0 1 = cc in absurd (omega arith)

pub within_low : (from to x : ℕ) → within from to x ≡ true → from ≤ x
unfolding within
within_low from to x h = leb-true from x (and_true (leb from x) (leb x to) h).0

pub within_high : (from to x : ℕ) → within from to x ≡ true → x ≤ to
unfolding within
within_high from to x h = leb-true x to (and_true (leb from x) (leb x to) h).1

pub within_is : (from to x : ℕ) → from ≤ x → x ≤ to → within from to x ≡ true
unfolding within
within_is from to x a b = simp (le-leb from x a, le-leb x to b)

-- ---- sizes

pub measured_agrees : (t : List ℕ) (s : Sizes) → measured t ≡ Some s → (sizes_of t ≡ s) × (agrees s t ≡ true)
unfolding measured
measured_agrees t s e = by (agrees (sizes_of t) t) refl e
  where
    by : (b : Bool) → agrees (sizes_of t) t ≡ b → cond b (Some (sizes_of t)) None ≡ Some s → (sizes_of t ≡ s) × (agrees s t ≡ true)
    by true h k = let z : sizes_of t ≡ s = cc in (z, rw z at h)
    by false h k = let z : ◌≡◌ {A = ℕ} 0 1 = cc in absurd (omega arith)

-- what the counts' agreement gives
agrees_parts : (s : Sizes) (t : List ℕ) → agrees s t ≡ true
    → (limits s ≡ true) × (words s ≤ length t) × (levels_again s t ≡ s.levels)
unfolding agrees
agrees_parts s t h =
    let p = and_true (limits s && leb (words s) (length t)) (eqb (levels_again s t) s.levels) h in
    let q = and_true (limits s) (leb (words s) (length t)) p.0 in
    (q.0, leb-true (words s) (length t) q.1, eqb-true (levels_again s t) s.levels p.1)

-- the limits of document 01, as numbers
pub record Limits (s : Sizes) : Type 0 where
  pub some_level : 1 ≤ s.levels
  pub levels : s.levels ≤ 16
  pub some_queue : 1 ≤ s.queues
  pub queues : s.queues ≤ 8
  pub sentinels : s.queues ≤ s.nodes
  pub nodes : s.nodes ≤ 1024

pub limits_are : (s : Sizes) → limits s ≡ true → Limits s
unfolding limits
limits_are s h =
    let p = and_true (within 1 16 s.levels && within 1 8 s.queues) (within s.queues 1024 s.nodes) h in
    let q = and_true (within 1 16 s.levels) (within 1 8 s.queues) p.0 in
    record {
      some_level = within_low 1 16 s.levels q.0;
      levels = within_high 1 16 s.levels q.0;
      some_queue = within_low 1 8 s.queues q.1;
      queues = within_high 1 8 s.queues q.1;
      sentinels = within_low s.queues 1024 s.nodes p.1;
      nodes = within_high s.queues 1024 s.nodes p.1;
    }

pub limits_small : (s : Sizes) → limits s ≡ true → Small s
limits_small s h =
    let p = limits_are s h in record { levels = omega arith; queues = omega arith; nodes = omega arith }

pub fits_is : (s : Sizes) (t : List ℕ) → limits s ≡ true → words s ≤ length t → Fits s t
fits_is s t h r =
    let p = limits_are s h in record { room = r; levels = omega arith; queues = omega arith; nodes = omega arith }

pub measured_limits : (t : List ℕ) (s : Sizes) → measured t ≡ Some s → Limits s
measured_limits t s e = limits_are s (agrees_parts s t (measured_agrees t s e).1).0

pub measured_fits : (t : List ℕ) (s : Sizes) → measured t ≡ Some s → Fits s t
measured_fits t s e = let p = agrees_parts s t (measured_agrees t s e).1 in fits_is s t p.0 p.1

-- the sizes fit a table of the same length
pub fits_length : (s : Sizes) (t u : List ℕ) → length u ≡ length t → Fits s t → Fits s u
fits_length s t u e f =
    record { room = omega (arith, f.room, e); levels = f.levels; queues = f.queues; nodes = f.nodes }

-- ---- words

-- the number of a word that the table has
unfoldable pub Bound : Sizes → Word → Type 0
Bound s (LevelNode l) = l.0 < s.levels
Bound s (LevelQueue l) = l.0 < s.levels
Bound s (Head q) = (1 ≤ q.0) × (q.0 ≤ s.queues)
Bound s (Tail q) = (1 ≤ q.0) × (q.0 ≤ s.queues)
Bound s (Next n) = (1 ≤ n.0) × (n.0 ≤ s.nodes)
Bound s (Use n) = (1 ≤ n.0) × (n.0 ≤ s.nodes)

pub bound : (s : Sizes) (w : Word) → has s w ≡ true → Bound s w
unfolding has Bound
bound s (LevelNode l) h = ltb-true l.0 s.levels h
bound s (LevelQueue l) h = ltb-true l.0 s.levels h
bound s (Head q) h = (within_low 1 s.queues q.0 h, within_high 1 s.queues q.0 h)
bound s (Tail q) h = (within_low 1 s.queues q.0 h, within_high 1 s.queues q.0 h)
bound s (Next n) h = (within_low 1 s.nodes n.0 h, within_high 1 s.nodes n.0 h)
bound s (Use n) h = (within_low 1 s.nodes n.0 h, within_high 1 s.nodes n.0 h)

-- a word's section, its entry there, counted from 0, and which of the entry's two words it is
data Section : Type 0 where
  levels queues nodes : Section

abbrev section : Word → Section
section (LevelNode l) = levels
section (LevelQueue l) = levels
section (Head q) = queues
section (Tail q) = queues
section (Next n) = nodes
section (Use n) = nodes

abbrev entry : Word → ℕ
entry (LevelNode l) = l.0
entry (LevelQueue l) = l.0
entry (Head q) = q.0 - 1
entry (Tail q) = q.0 - 1
entry (Next n) = n.0 - 1
entry (Use n) = n.0 - 1

abbrev half : Word → ℕ
half (LevelNode l) = 0
half (LevelQueue l) = 1
half (Head q) = 0
half (Tail q) = 1
half (Next n) = 0
half (Use n) = 1

-- a section's first place and its number of entries
abbrev first : Sizes → Section → ℕ
first s levels = levels_at + 1
first s queues = queues_at s.levels + 1
first s nodes = nodes_at s.levels s.queues + 1

abbrev size : Sizes → Section → ℕ
size s levels = s.levels
size s queues = s.queues
size s nodes = s.nodes

record Spot (s : Sizes) (w : Word) : Type 0 where
  is : addr s w ≡ first s (section w) + 2 * entry w + half w
  inside : entry w < size s (section w)
  one_of_two : half w < 2

spot : (s : Sizes) (w : Word) → has s w ≡ true → Spot s w
unfolding addr Bound
spot s w h = by w (bound s w h)
  where
    by : (w : Word) → Bound s w → Spot s w
    by (LevelNode l) b = record { is = omega arith; inside = omega arith; one_of_two = omega arith }
    by (LevelQueue l) b = record { is = omega arith; inside = omega arith; one_of_two = omega arith }
    by (Head q) b = record { is = omega arith; inside = omega arith; one_of_two = omega arith }
    by (Tail q) b = record { is = omega arith; inside = omega arith; one_of_two = omega arith }
    by (Next n) b = record { is = omega arith; inside = omega arith; one_of_two = omega arith }
    by (Use n) b = record { is = omega arith; inside = omega arith; one_of_two = omega arith }

-- the word of a section, an entry and a half
abbrev word_at : Section → ℕ → ℕ → Word
word_at levels i zero = LevelNode (level i)
word_at levels i (suc h) = LevelQueue (level i)
word_at queues i zero = Head (queue (i + 1))
word_at queues i (suc h) = Tail (queue (i + 1))
word_at nodes i zero = Next (node (i + 1))
word_at nodes i (suc h) = Use (node (i + 1))

word_at_holds : (s : Sizes) (w : Word) → Bound s w → word_at (section w) (entry w) (half w) ≡ w
unfolding Bound
word_at_holds s (LevelNode l) b = refl
word_at_holds s (LevelQueue l) b = refl
word_at_holds s (Head q) b = let e : q.0 - 1 + 1 ≡ q.0 = omega arith in ap (λ (n : ℕ). Head (queue n)) e
word_at_holds s (Tail q) b = let e : q.0 - 1 + 1 ≡ q.0 = omega arith in ap (λ (n : ℕ). Tail (queue n)) e
word_at_holds s (Next n) b = let e : n.0 - 1 + 1 ≡ n.0 = omega arith in ap (λ (n : ℕ). Next (node n)) e
word_at_holds s (Use n) b = let e : n.0 - 1 + 1 ≡ n.0 = omega arith in ap (λ (n : ℕ). Use (node n)) e

-- two places that are the same are of one section, entry and half
one_spot : (s : Sizes) (x y : Section) (i j a b : ℕ) → i < size s x → j < size s y → a < 2 → b < 2
    → first s x + 2 * i + a ≡ first s y + 2 * j + b → (x ≡ y) × (i ≡ j) × (a ≡ b)
one_spot s levels levels i j a b p q v w e = (refl, omega arith, omega arith)
one_spot s levels queues i j a b p q v w e = absurd (omega arith)
one_spot s levels nodes i j a b p q v w e = absurd (omega arith)
one_spot s queues levels i j a b p q v w e = absurd (omega arith)
one_spot s queues queues i j a b p q v w e = (refl, omega arith, omega arith)
one_spot s queues nodes i j a b p q v w e = absurd (omega arith)
one_spot s nodes levels i j a b p q v w e = absurd (omega arith)
one_spot s nodes queues i j a b p q v w e = absurd (omega arith)
one_spot s nodes nodes i j a b p q v w e = (refl, omega arith, omega arith)

same_place : (s : Sizes) (u w : Word) → has s u ≡ true → has s w ≡ true → addr s u ≡ addr s w → u ≡ w
same_place s u w h k e =
    let p = spot s u h in
    let q = spot s w k in
    let r =
    one_spot s (section u) (section w) (entry u) (entry w) (half u) (half w) p.inside q.inside p.one_of_two q.one_of_two
    (sym p.is ∙ e ∙ q.is)
    in
    sym (word_at_holds s u (bound s u h)) ∙ rw (r.0, r.1, r.2) (word_at_holds s w (bound s w k))

-- a word of the table stands before the frames' count, and is none of the other counts
record Clear (s : Sizes) (i : ℕ) : Type 0 where
  no_levels : i ≢ levels_at
  no_queues : i ≢ queues_at s.levels
  no_nodes : i ≢ nodes_at s.levels s.queues
  before : i < frames_at s.levels s.queues s.nodes

spot_clear : (s : Sizes) (x : Section) (i a : ℕ) → i < size s x → a < 2 → Clear s (first s x + 2 * i + a)
spot_clear s levels i a p v = record { no_levels = omega arith; no_queues = omega arith; no_nodes = omega arith; before = omega arith }
spot_clear s queues i a p v = record { no_levels = omega arith; no_queues = omega arith; no_nodes = omega arith; before = omega arith }
spot_clear s nodes i a p v = record { no_levels = omega arith; no_queues = omega arith; no_nodes = omega arith; before = omega arith }

addr_clear : (s : Sizes) (w : Word) → has s w ≡ true → Clear s (addr s w)
addr_clear s w h =
    let p = spot s w h in rw p.is (spot_clear s (section w) (entry w) (half w) p.inside p.one_of_two)

pub addr_in : (s : Sizes) (w : Word) → has s w ≡ true → addr s w < words s
addr_in s w h = omega (arith, (addr_clear s w h).before)

module _ (s : Sizes) (t : List ℕ) (room : words s ≤ length t) (w : Word) (h : has s w ≡ true) where
  -- a read after a write of the same word
  pub rd_same : (v : ℕ) → rd s (wr s t w v) w ≡ v
  unfolding rd wr
  rd_same v = get_or-set_same t (addr s w) v 0 (omega (arith, addr_in s w h))

  -- and of another word
  pub rd_other : (u : Word) → has s u ≡ true → u ≢ w → (v : ℕ) → rd s (wr s t w v) u ≡ rd s t u
  unfolding rd wr
  rd_other u k ne v = get_or-set_other t (addr s w) (addr s u) v 0 (λ e. ne (same_place s u w k h e))

-- ---- a run of words: what straight-line code that stores at b, b + 1, b + 2 .. leaves
abbrev laid : List ℕ → ℕ → ℕ → List ℕ → List ℕ
laid t b i [] = t
laid t b i (w ∷ ws) = laid (set t (b + i) w) b (suc i) ws

laid_sets : (ws t : List ℕ) (b i : ℕ) → laid t b i ws ≡ sets t (b + i) ws
laid_sets [] t b i = refl
laid_sets (w ∷ ws) t b i = rw add-suc at (laid_sets ws (set t (b + i) w) b (suc i))

pub sets_from : (t : List ℕ) (b w : ℕ) (ws : List ℕ) → laid (set t b w) b 1 ws ≡ sets t b (w ∷ ws)
sets_from t b w ws = rw add-one at (laid_sets ws (set t b w) b 1)

-- a frame's words behind its op
abbrev behind_op : Frame → List ℕ
behind_op f = f.point ∷ f.queue.0 ∷ f.node.0 ∷ f.k.0 ∷ f.p.0 ∷ f.c.0 ∷ f.a.0 ∷ f.r.0 ∷ f.m.0 ∷ f.steps ∷ []

pub frame_laid : (t : List ℕ) (b : ℕ) (f : Frame) → laid (set t b f.op) b 1 (behind_op f) ≡ sets t b (frame_words f)
frame_laid t b f = sets_from t b f.op (behind_op f)

-- a place that is none of those written keeps its word
sets_out : (ws t : List ℕ) (b j : ℕ) → ((i : ℕ) → i < length ws → j ≢ b + i) → get_or (sets t b ws) j 0 ≡ get_or t j 0
sets_out [] t b j h = refl
sets_out (w ∷ ws) t b j h =
    sets_out ws (set t b w) (suc b) j (λ i k e. h (suc i) (omega arith) (omega arith))
    ∙ get_or-set_other t b j w 0 (λ e. h 0 (omega arith) (omega arith))

-- a place that is one of them has the word written
sets_in : (ws t : List ℕ) (b i : ℕ) → i < length ws → b + length ws ≤ length t → get_or (sets t b ws) (b + i) 0 ≡ get_or ws i 0
sets_in [] t b i h r = absurd (omega arith)
sets_in (w ∷ ws) t b zero h r =
    sets_out ws (set t b w) (suc b) (b + 0) (λ i k e. omega arith) ∙ rw add-zero (get_or-set_same t b w 0 (omega arith))
sets_in (w ∷ ws) t b (suc i) h r =
    let e : b + suc i ≡ suc b + i = omega arith in
    rw e (sets_in ws (set t b w) (suc b) i (omega arith) (rw length-set (omega arith)))

-- ---- frames

frame_in : (s : Sizes) (l : Level) → l.0 < s.levels → frame_at s l + 11 ≤ words s
unfolding frame_at
frame_in s l h = omega arith

frame_past : (s : Sizes) (l : Level) → frames_at s.levels s.queues s.nodes < frame_at s l
unfolding frame_at
frame_past s l = omega arith

frames_apart : (s : Sizes) (k l : Level) (i j : ℕ) → k.0 ≢ l.0 → i < 11 → j < 11 → frame_at s k + i ≢ frame_at s l + j
unfolding frame_at
frames_apart s k l i j ne p q e = omega arith

-- a frame is read from b on as from the front of a list that has the same 11 words
frame_words_holds : (u ws : List ℕ) (b : ℕ) → ((i : ℕ) → i < 11 → get_or u (b + i) 0 ≡ get_or ws i 0) → frame_from u b ≡ frame_from ws 0
frame_words_holds u ws b h =
    let op : get_or u b 0 ≡ get_or ws 0 0 = rw add-zero at (h 0 (omega arith)) in
    simp (
      op,
      h 1 (omega arith),
      h 2 (omega arith),
      h 3 (omega arith),
      h 4 (omega arith),
      h 5 (omega arith),
      h 6 (omega arith),
      h 7 (omega arith),
      h 8 (omega arith),
      h 9 (omega arith),
      h 10 (omega arith),
    )

-- a frame whose words are those that another table has elsewhere
pub frame_moved : (t u : List ℕ) (a b : ℕ) → ((i : ℕ) → i < 11 → get_or u (b + i) 0 ≡ get_or t (a + i) 0) → frame_from u b ≡ frame_from t a
frame_moved t u a b h =
    frame_words_holds u (drop a t) b (λ i k. h i k ∙ sym (get_or-drop a t i 0))
    ∙ sym (frame_words_holds t (drop a t) a (λ i k. sym (get_or-drop a t i 0)))

frame_kept : (t u : List ℕ) (b : ℕ) → ((i : ℕ) → i < 11 → get_or u (b + i) 0 ≡ get_or t (b + i) 0) → frame_from u b ≡ frame_from t b
frame_kept t u b h = frame_moved t u b b h

module _ (s : Sizes) (t : List ℕ) (l : Level) where
  -- a frame after a word was written
  pub frame_wr : (w : Word) → has s w ≡ true → (v : ℕ) → frame_of s (wr s t w v) l ≡ frame_of s t l
  unfolding frame_of wr
  frame_wr w h v =
      frame_kept t (set t (addr s w) v) (frame_at s l)
      (λ i k. get_or-set_other t (addr s w) (frame_at s l + i) v 0 (λ e. omega (arith, (addr_clear s w h).before, frame_past s l)))

  -- a word after a frame was put
  pub rd_put : (g : Frame) (w : Word) → has s w ≡ true → rd s (put_frame s t l g) w ≡ rd s t w
  unfolding rd put_frame
  rd_put g w h =
      sets_out (frame_words g) t (frame_at s l) (addr s w)
      (λ i k e. omega (arith, (addr_clear s w h).before, frame_past s l))

  -- a frame after it was put
  pub frame_same : (g : Frame) → words s ≤ length t → l.0 < s.levels → frame_of s (put_frame s t l g) l ≡ g
  unfolding frame_of put_frame
  frame_same g room h =
      frame_words_holds (sets t (frame_at s l) (frame_words g)) (frame_words g) (frame_at s l)
      (λ i k. sets_in (frame_words g) t (frame_at s l) i k (omega (arith, frame_in s l h)))

  -- and another level's frame
  pub frame_other : (g : Frame) (k : Level) → k.0 ≢ l.0 → frame_of s (put_frame s t l g) k ≡ frame_of s t k
  unfolding frame_of put_frame
  frame_other g k ne =
      frame_kept t (sets t (frame_at s l) (frame_words g)) (frame_at s k)
      (λ i h. sets_out (frame_words g) t (frame_at s l) (frame_at s k + i) (λ j p. frames_apart s k l i j ne h p))

-- ---- lengths, counts and words past the end

pub wr_length : (s : Sizes) (t : List ℕ) (w : Word) (v : ℕ) → length (wr s t w v) ≡ length t
unfolding wr
wr_length s t w v = length-set t (addr s w) v

pub put_length : (s : Sizes) (t : List ℕ) (l : Level) (f : Frame) → length (put_frame s t l f) ≡ length t
unfolding put_frame
put_length s t l f = length-sets t (frame_at s l) (frame_words f)

pub wr_past : (s : Sizes) (t : List ℕ) (w : Word) → has s w ≡ true → (v i : ℕ) → words s ≤ i → get_or (wr s t w v) i 0 ≡ get_or t i 0
unfolding wr
wr_past s t w h v i p = get_or-set_other t (addr s w) i v 0 (λ e. omega (arith, addr_in s w h))

pub put_past : (s : Sizes) (t : List ℕ) (l : Level) → l.0 < s.levels → (f : Frame) (i : ℕ) → words s ≤ i
    → get_or (put_frame s t l f) i 0 ≡ get_or t i 0
unfolding put_frame
put_past s t l h f i p =
    sets_out (frame_words f) t (frame_at s l) i (λ j k e. omega (arith, frame_in s l h))

pub measured_is : (t : List ℕ) (s : Sizes) → sizes_of t ≡ s → agrees s t ≡ true → measured t ≡ Some s
unfolding measured
measured_is t s e h = subst (λ (x : Sizes). cond (agrees x t) (Some x) None ≡ Some s) (sym e) (rw h)

-- a table of the same length and counts has the same sizes
measured_same : (s : Sizes) (t u : List ℕ) → measured t ≡ Some s → length u ≡ length t
    → get_or u levels_at 0 ≡ get_or t levels_at 0
    → get_or u (queues_at s.levels) 0 ≡ get_or t (queues_at s.levels) 0
    → get_or u (nodes_at s.levels s.queues) 0 ≡ get_or t (nodes_at s.levels s.queues) 0
    → levels_again s u ≡ levels_again s t
    → measured u ≡ Some s
unfolding agrees
measured_same s t u e len a b c d =
    let m = measured_agrees t s e in
    let l : get_or t levels_at 0 ≡ s.levels = ap (λ (x : Sizes). x.levels) m.0 in
    let l' : get_or u levels_at 0 ≡ s.levels = a ∙ l in
    let q : get_or t (queues_at s.levels) 0 ≡ s.queues = rw l at (ap (λ (x : Sizes). x.queues) m.0) in
    let q' : get_or u (queues_at s.levels) 0 ≡ s.queues = b ∙ q in
    let n : get_or t (nodes_at s.levels s.queues) 0 ≡ s.nodes = rw (l, q) at (ap (λ (x : Sizes). x.nodes) m.0) in
    let is : sizes_of u ≡ s = simp (l', q', c ∙ n) in
    let ok : agrees s u ≡ true = simp (len, d) m.1 in
    measured_is u s is ok

pub measured_wr : (s : Sizes) (t : List ℕ) (w : Word) (v : ℕ) → measured t ≡ Some s → has s w ≡ true → measured (wr s t w v) ≡ Some s
unfolding wr
measured_wr s t w v e h =
    let k = addr_clear s w h in
    let kept : (i : ℕ) → i ≢ addr s w → get_or (set t (addr s w) v) i 0 ≡ get_or t i 0 = λ i ne. get_or-set_other t (addr s w) i v 0 ne in
    measured_same s t (set t (addr s w) v) e (length-set t (addr s w) v)
    (kept levels_at (λ z. k.no_levels (sym z)))
    (kept (queues_at s.levels) (λ z. k.no_queues (sym z)))
    (kept (nodes_at s.levels s.queues) (λ z. k.no_nodes (sym z)))
    (kept (frames_at s.levels s.queues s.nodes) (λ z. omega (arith, k.before)))

pub measured_put : (s : Sizes) (t : List ℕ) (l : Level) (f : Frame) → measured t ≡ Some s → measured (put_frame s t l f) ≡ Some s
unfolding put_frame
measured_put s t l f e =
    let kept : (i : ℕ) → i < frame_at s l → get_or (sets t (frame_at s l) (frame_words f)) i 0 ≡ get_or t i 0 =
    λ i h. sets_out (frame_words f) t (frame_at s l) i (λ j k z. omega arith) in
    let p = frame_past s l in
    measured_same s t (sets t (frame_at s l) (frame_words f)) e (length-sets t (frame_at s l) (frame_words f))
    (kept levels_at (omega arith))
    (kept (queues_at s.levels) (omega arith))
    (kept (nodes_at s.levels s.queues) (omega arith))
    (kept (frames_at s.levels s.queues s.nodes) p)

-- a node's next and use are words of the table together
pub has_use : (s : Sizes) (n : Node) → has s (Next n) ≡ true → has s (Use n) ≡ true
unfolding has
has_use s n h = h

-- ---- a table whose words are 0, and one whose counts were written

module _ (s : Sizes) (t : List ℕ) (zeros : (i : ℕ) → i < words s → get_or t i 0 ≡ 0) where
  pub rd_zero : (w : Word) → has s w ≡ true → rd s t w ≡ 0
  unfolding rd
  rd_zero w h = zeros (addr s w) (addr_in s w h)

  pub frame_zero : (l : Level) → l.0 < s.levels → frame_of s t l ≡ no_frame
  unfolding frame_of
  frame_zero l h =
      frame_kept [] t (frame_at s l) (λ i k. zeros (frame_at s l + i) (omega (arith, frame_in s l h)))

-- a place that has none of the counts keeps its word
counts_out : (s : Sizes) (t : List ℕ) (i : ℕ) → i ≢ levels_at → i ≢ queues_at s.levels → i ≢ nodes_at s.levels s.queues
    → i ≢ frames_at s.levels s.queues s.nodes → get_or (put_counts s t) i 0 ≡ get_or t i 0
unfolding put_counts
counts_out s t i a b c d = simp get_or-set_other

pub counts_length : (s : Sizes) (t : List ℕ) → length (put_counts s t) ≡ length t
unfolding put_counts
counts_length s t = simp length-set

pub counts_past : (s : Sizes) (t : List ℕ) (i : ℕ) → words s ≤ i → get_or (put_counts s t) i 0 ≡ get_or t i 0
counts_past s t i p = counts_out s t i (λ e. omega arith) (λ e. omega arith) (λ e. omega arith) (λ e. omega arith)

pub rd_counts : (s : Sizes) (t : List ℕ) (w : Word) → has s w ≡ true → rd s (put_counts s t) w ≡ rd s t w
unfolding rd
rd_counts s t w h =
    let k = addr_clear s w h in
    counts_out s t (addr s w) k.no_levels k.no_queues k.no_nodes (λ e. omega (arith, k.before))

pub frame_counts : (s : Sizes) (t : List ℕ) (l : Level) → frame_of s (put_counts s t) l ≡ frame_of s t l
unfolding frame_of
frame_counts s t l =
    let p = frame_past s l in
    frame_kept t (put_counts s t) (frame_at s l)
    (λ i k. counts_out s t (frame_at s l + i) (λ e. omega arith) (λ e. omega arith) (λ e. omega arith) (λ e. omega arith))

-- four words written in rising places are there afterwards
set_four : (t : List ℕ) (a b c d w x y z : ℕ) → a < b → b < c → c < d → d < length t
    → let u = set (set (set (set t a w) b x) c y) d z in
    (get_or u a 0 ≡ w) × (get_or u b 0 ≡ x) × (get_or u c 0 ≡ y) × (get_or u d 0 ≡ z)
set_four t a b c d w x y z p q r l =
    let ab : a ≢ b = λ e. omega arith in
    let ac : a ≢ c = λ e. omega arith in
    let ad : a ≢ d = λ e. omega arith in
    let bc : b ≢ c = λ e. omega arith in
    let bd : b ≢ d = λ e. omega arith in
    let cd : c ≢ d = λ e. omega arith in
    let at : (u : List ℕ) (i v : ℕ) → i < length u → get_or (set u i v) i 0 ≡ v = λ u i v. get_or-set_same u i v 0 in (
      simp get_or-set_other (at t a w (omega arith)),
      simp get_or-set_other (at (set t a w) b x (rw length-set (omega arith))),
      simp get_or-set_other (at (set (set t a w) b x) c y (simp length-set (omega arith))),
      at (set (set (set t a w) b x) c y) d z (simp length-set (omega arith)),
    )

pub measured_counts : (s : Sizes) (t : List ℕ) → limits s ≡ true → words s ≤ length t → measured (put_counts s t) ≡ Some s
unfolding put_counts agrees
measured_counts s t lim room =
    let w =
    set_four t levels_at (queues_at s.levels) (nodes_at s.levels s.queues) (frames_at s.levels s.queues s.nodes)
    s.levels s.queues s.nodes s.levels (omega arith) (omega arith) (omega arith) (omega arith) in
    let is : sizes_of (put_counts s t) ≡ s = simp (w.0, w.1, w.2) in
    let ok : agrees s (put_counts s t) ≡ true =
    simp (lim, length-set, le-leb (words s) (length t) room, w.3, eq-eqb s.levels s.levels refl) in
    measured_is (put_counts s t) s is ok

-- a word whose number is in its range is one of the table's
pub has_is : (s : Sizes) (w : Word) → Bound s w → has s w ≡ true
unfolding has Bound
has_is s (LevelNode l) b = lt-ltb l.0 s.levels b
has_is s (LevelQueue l) b = lt-ltb l.0 s.levels b
has_is s (Head q) b = within_is 1 s.queues q.0 b.0 b.1
has_is s (Tail q) b = within_is 1 s.queues q.0 b.0 b.1
has_is s (Next n) b = within_is 1 s.nodes n.0 b.0 b.1
has_is s (Use n) b = within_is 1 s.nodes n.0 b.0 b.1

-- ---- a frame put again, and beside a word

-- a store beside a run of words, before it and after it
sets_beside : (ws t : List ℕ) (b j v : ℕ) → ((i : ℕ) → i < length ws → j ≢ b + i) → sets (set t j v) b ws ≡ set (sets t b ws) j v
sets_beside [] t b j v h = refl
sets_beside (w ∷ ws) t b j v h =
    ap (λ (u : List ℕ). sets u (suc b) ws) (set_comm t j b v w (λ e. h 0 (omega arith) (omega arith)))
    ∙ sets_beside ws (set t b w) (suc b) j v (λ i k e. h (suc i) (omega arith) (omega arith))

-- of two runs of words at one place the last stays
sets_twice : (ws vs t : List ℕ) (b : ℕ) → length ws ≡ length vs → sets (sets t b ws) b vs ≡ sets t b vs
sets_twice [] [] t b e = refl
sets_twice [] (v ∷ vs) t b e = absurd (omega arith)
sets_twice (w ∷ ws) [] t b e = absurd (omega arith)
sets_twice (w ∷ ws) (v ∷ vs) t b e =
    let over : set (sets (set t b w) (suc b) ws) b v ≡ sets (set t b v) (suc b) ws =
    sym (sets_beside ws (set t b w) (suc b) b v (λ i k z. omega arith))
    ∙ ap (λ (u : List ℕ). sets u (suc b) ws) (set-set t b w v) in
    ap (λ (u : List ℕ). sets u (suc b) vs) over ∙ sets_twice ws vs (set t b v) (suc b) (omega arith)

-- a word's own value put into it
set_own : (t : List ℕ) (i : ℕ) → set t i (get_or t i 0) ≡ t
set_own [] i = refl
set_own (x ∷ t) zero = refl
set_own (x ∷ t) (suc i) = ap (λ (r : List ℕ). x ∷ r) (set_own t i)

module _ (s : Sizes) (t : List ℕ) (l : Level) where
  pub put_put : (f g : Frame) → put_frame s (put_frame s t l f) l g ≡ put_frame s t l g
  unfolding put_frame
  put_put f g = sets_twice (frame_words f) (frame_words g) t (frame_at s l) refl

  pub put_wr : (f : Frame) (w : Word) → has s w ≡ true → (v : ℕ) → put_frame s (wr s t w v) l f ≡ wr s (put_frame s t l f) w v
  unfolding put_frame wr
  put_wr f w h v =
      sets_beside (frame_words f) t (frame_at s l) (addr s w) v
      (λ i k e. omega (arith, (addr_clear s w h).before, frame_past s l))

  -- a frame's own words put into it
  pub put_own : put_frame s t l (frame_of s t l) ≡ t
  unfolding put_frame frame_of
  put_own = sym (frame_laid t (frame_at s l) (frame_from t (frame_at s l))) ∙ simp set_own
