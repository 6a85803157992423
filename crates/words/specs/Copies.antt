-- What holds of the copy with one more idle level: its words, by their names, are the table's, and the new level's are 0.
use Rattle.std.specs.Prelude.{ℕ, suc, ◌+◌, ◌-◌, ◌≤◌, ◌<◌, ◌≡◌, true, take, set, replicate}
use Rattle.std.proofs.Math.Path.{refl, ap}
use Rattle.std.proofs.Common.{sym, ◌∙◌, zero-add, add-one, length-drop, length-set, take-suc-set, get_or-drop, length-take-le}
use mathlib.Core.List.{List, [], ◌∷◌, ◌++◌, append_assoc, append-nil}
use native.Mathlib.Omega.{arith}
use Rattle.std.proofs.Math.ListN.{length, get_or, drop, length-append, drop_of_length-le, get_or-append}
use Rattle.std.proofs.lemmas.List.{length-replicate}
use Rattle.std.proofs.Math.Seq.{sets, sets-eq, paste, paste-suc, get_or-append-add, get_or-take}
use Rattle.std.proofs.lemmas.List.Edits.{take-paste, length-paste}
use Rattle.words.specs.declared.Sizes.{Sizes}
use Rattle.words.specs.declared.Word.{Word}
use Rattle.words.specs.declared.Word.TheVariants.{LevelNode, LevelQueue, Head, Tail, Next, Use}
use Rattle.words.specs.Layout.{level, words, queues_at, has, addr, rd, frame_at, frame_words, frame_of, put_frame, no_frame}
use Rattle.words.specs.Laws.{Bound, bound, has_is, frame_moved, counts_length, rd_counts, frame_counts}
use Rattle.words.specs.Copy.{taller, level_words, other_words, spread, raised}

-- the place after the levels' words, and how many words follow
abbrev cut : Sizes → ℕ
cut s = queues_at s.levels

abbrev others : Sizes → ℕ
others s = words s - cut s

-- ---- copied word by word

-- the first words of an array of zeros, as room for a copy
pub part_length : (n all : ℕ) → n ≤ all → length (take n (replicate {A = ℕ} all 0)) ≡ n
part_length n all h = length-take-le n (replicate {A = ℕ} all 0) (omega (arith, h, length-replicate {A = ℕ} all 0))

pub copied : (from to₀ to : List ℕ) (at place i : ℕ) → at + i < length from → place + i < length to₀
    → to ≡ paste to₀ place (drop at from) i
    → set to (place + i) (get_or from (at + i) 0) ≡ paste to₀ place (drop at from) (i + 1)
copied from to₀ to at place i h k e =
    let next = paste-suc to₀ place (drop at from) i 0 k (rw length-drop (omega arith)) in
    rw (e, ← get_or-drop at from i 0, add-one) next

-- ---- filled part by part: the levels' words, the new level's two, and all others

module _ (s : Sizes) (t c : List ℕ) where
  abbrev first_part : List ℕ
  first_part = paste c 0 t (cut s)

  abbrev new_part : List ℕ
  new_part = set (set first_part (cut s) 0) (cut s + 1) 0

  abbrev pub parts : List ℕ
  parts = paste new_part (cut s + 2) (drop (cut s) t) (others s)

module _ (s : Sizes) (t c : List ℕ) (room : words s ≤ length t) (long : length c ≡ words (taller s)) where
  first_long : length (first_part s t c) ≡ length c
  first_long = length-paste c 0 t (cut s) (omega (arith, zero-add (cut s))) (omega arith)

  first_is : take (cut s) (first_part s t c) ≡ level_words s t
  first_is =
      let z : 0 + cut s ≡ cut s = zero-add (cut s) in
      ap (λ (i : ℕ). take i (first_part s t c)) (sym z) ∙ take-paste c 0 t (cut s) (omega arith) (omega arith)

  new_long : length (new_part s t c) ≡ length c
  new_long = simp length-set first_long

  new_is : take (cut s + 2) (new_part s t c) ≡ level_words s t ++ (0 ∷ []) ++ (0 ∷ [])
  new_is =
      let f = first_part s t c in
      let u = set f (cut s) 0 in
      let in_u : cut s + 1 < length u = rw length-set (omega (arith, first_long)) in
      let one : take (suc (cut s)) u ≡ take (cut s) f ++ (0 ∷ []) = take-suc-set f (cut s) 0 (omega (arith, first_long)) in
      let two : take (suc (cut s + 1)) (new_part s t c) ≡ take (cut s + 1) u ++ (0 ∷ []) = take-suc-set u (cut s + 1) 0 in_u in
      let d : cut s + 2 ≡ suc (cut s + 1) = omega arith in
      let e : cut s + 1 ≡ suc (cut s) = omega arith in
      ap (λ (i : ℕ). take i (new_part s t c)) d ∙ two ∙ ap (λ (i : ℕ). take i u ++ (0 ∷ [])) e ∙ rw (one, first_is) refl

  -- the words after the new level's two are long enough to be copied
  others_long : others s ≤ length (drop (cut s) t)
  others_long = omega (arith, length-drop (cut s) t)

  pub parts_long : length (parts s t c) ≡ length c
  parts_long = length-paste (new_part s t c) (cut s + 2) (drop (cut s) t) (others s) (omega (arith, new_long)) others_long ∙ new_long

  parts_are : take (cut s + 2 + others s) (parts s t c) ≡ level_words s t ++ (0 ∷ []) ++ (0 ∷ []) ++ other_words s t
  parts_are =
      take-paste (new_part s t c) (cut s + 2) (drop (cut s) t) (others s) (omega (arith, new_long)) others_long
      ∙ ap (λ (x : List ℕ). x ++ other_words s t) new_is

  -- and the new level's frame
  pub parts_spread : put_frame (taller s) (parts s t c) (level s.levels) no_frame ≡ spread s t
  unfolding put_frame spread frame_at
  parts_spread =
      let ps = parts s t c in
      let end = cut s + 2 + others s in
      let at : frame_at (taller s) (level s.levels) ≡ end = omega arith in
      let none : drop (end + 11) ps ≡ [] = drop_of_length-le ps {i = end + 11} (omega (arith, parts_long)) in
      let whole = sets-eq (frame_words no_frame) ps end (omega (arith, parts_long)) in
      ap (λ (i : ℕ). sets ps i (frame_words no_frame)) at ∙ whole ∙ rw (none, parts_are, append-nil) (simp append_assoc)

-- ---- the words that it has

taller_bound : (s : Sizes) (w : Word) → Bound s w → Bound (taller s) w
unfolding Bound
taller_bound s (LevelNode l) b = omega arith
taller_bound s (LevelQueue l) b = omega arith
taller_bound s (Head q) b = b
taller_bound s (Tail q) b = b
taller_bound s (Next n) b = b
taller_bound s (Use n) b = b

pub taller_has : (s : Sizes) (w : Word) → has s w ≡ true → has (taller s) w ≡ true
taller_has s w h = has_is (taller s) w (taller_bound s w (bound s w h))

-- ---- its words by their places

module _ (s : Sizes) (t : List ℕ) (room : words s ≤ length t) where
  first_size : length (level_words s t) ≡ cut s
  first_size = length-take-le (cut s) t (omega arith)

  others_size : length (other_words s t) ≡ others s
  others_size = length-take-le (others s) (drop (cut s) t) (omega (arith, length-drop (cut s) t))

  abbrev behind : List ℕ
  behind = other_words s t ++ frame_words no_frame

  low_word : (i : ℕ) → i < cut s → get_or (spread s t) i 0 ≡ get_or t i 0
  unfolding spread
  low_word i h = get_or-append (level_words s t) (0 ∷ 0 ∷ behind) 0 i (omega (arith, first_size)) ∙ get_or-take (cut s) t i 0 h

  past : (i j : ℕ) → j ≡ cut s + i → get_or (spread s t) j 0 ≡ get_or (0 ∷ 0 ∷ behind) i 0
  unfolding spread
  past i j e =
      let at : j ≡ length (level_words s t) + i = omega (arith, first_size) in
      ap (λ (k : ℕ). get_or (spread s t) k 0) at ∙ get_or-append-add (level_words s t) (0 ∷ 0 ∷ behind) i 0

  high_word : (i j : ℕ) → cut s ≤ i → i < words s → j ≡ i + 2 → get_or (spread s t) j 0 ≡ get_or t i 0
  high_word i j a b e =
      past (suc (suc (i - cut s))) j (omega arith)
      ∙ get_or-append (other_words s t) (frame_words no_frame) 0 (i - cut s) (omega (arith, others_size))
      ∙ get_or-take (others s) (drop (cut s) t) (i - cut s) 0 (omega arith)
      ∙ get_or-drop (cut s) t (i - cut s) 0
      ∙ ap (λ (k : ℕ). get_or t k 0) (omega arith)

  -- the new frame
  last_word : (i j : ℕ) → j ≡ words s + 2 + i → get_or (spread s t) j 0 ≡ get_or (frame_words no_frame) i 0
  last_word i j e =
      let at : others s + i ≡ length (other_words s t) + i = omega (arith, others_size) in
      past (suc (suc (others s + i))) j (omega arith)
      ∙ ap (λ (k : ℕ). get_or behind k 0) at
      ∙ get_or-append-add (other_words s t) (frame_words no_frame) i 0

  -- ---- by their names

  word_moved : (w : Word) → Bound s w → get_or (spread s t) (addr (taller s) w) 0 ≡ get_or t (addr s w) 0
  unfolding Bound addr
  word_moved (LevelNode l) b = low_word (addr s (LevelNode l)) (omega arith)
  word_moved (LevelQueue l) b = low_word (addr s (LevelQueue l)) (omega arith)
  word_moved (Head q) b = high_word (addr s (Head q)) (addr (taller s) (Head q)) (omega arith) (omega arith) (omega arith)
  word_moved (Tail q) b = high_word (addr s (Tail q)) (addr (taller s) (Tail q)) (omega arith) (omega arith) (omega arith)
  word_moved (Next n) b = high_word (addr s (Next n)) (addr (taller s) (Next n)) (omega arith) (omega arith) (omega arith)
  word_moved (Use n) b = high_word (addr s (Use n)) (addr (taller s) (Use n)) (omega arith) (omega arith) (omega arith)

  pub raised_word : (w : Word) → has s w ≡ true → rd (taller s) (raised s t) w ≡ rd s t w
  unfolding raised rd
  raised_word w h =
      rd_counts (taller s) (spread s t) w (taller_has s w h) ∙ word_moved w (bound s w h)

  -- the new level's
  new_word : (w : Word) (i : ℕ) → Bound (taller s) w → addr (taller s) w ≡ cut s + i → get_or (0 ∷ 0 ∷ behind) i 0 ≡ 0
      → rd (taller s) (raised s t) w ≡ 0
  unfolding raised rd
  new_word w i b at z = rd_counts (taller s) (spread s t) w (has_is (taller s) w b) ∙ past i (addr (taller s) w) at ∙ z

  pub raised_node : rd (taller s) (raised s t) (LevelNode (level s.levels)) ≡ 0
  unfolding Bound addr
  raised_node = new_word (LevelNode (level s.levels)) 0 (omega arith) (omega arith) refl

  pub raised_queue : rd (taller s) (raised s t) (LevelQueue (level s.levels)) ≡ 0
  unfolding Bound addr
  raised_queue = new_word (LevelQueue (level s.levels)) 1 (omega arith) (omega arith) refl

  pub raised_frame : (l : ℕ) → l < s.levels → frame_of (taller s) (raised s t) (level l) ≡ frame_of s t (level l)
  unfolding raised frame_of frame_at
  raised_frame l low =
      frame_counts (taller s) (spread s t) (level l)
      ∙ frame_moved t (spread s t) (frame_at s (level l)) (frame_at (taller s) (level l))
      (λ i k. high_word (frame_at s (level l) + i) (frame_at (taller s) (level l) + i) (omega arith) (omega arith) (omega arith))

  pub raised_idle : frame_of (taller s) (raised s t) (level s.levels) ≡ no_frame
  unfolding raised frame_of frame_at
  raised_idle =
      frame_counts (taller s) (spread s t) (level s.levels)
      ∙ frame_moved (frame_words no_frame) (spread s t) 0 (frame_at (taller s) (level s.levels))
      (λ i k. last_word (0 + i) (frame_at (taller s) (level s.levels) + i) (omega arith))

  pub raised_length : length (raised s t) ≡ words (taller s)
  unfolding raised spread
  raised_length =
      counts_length (taller s) (spread s t)
      ∙ omega (
        arith,
        length-append (level_words s t) (0 ∷ 0 ∷ behind),
        first_size,
        length-append (other_words s t) (frame_words no_frame),
        others_size,
      )
