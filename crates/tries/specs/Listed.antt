-- What is listed, without the walk: the first texts as far as the bound, and whether there are more.
use Prim.Native.Nat.{ℕ, zero, suc, ◌+◌, ◌≤◌, ◌<◌}
use Rattle.std.specs.Prelude.{◌≡◌, Bool, cond, take, leb, ltb}
use Rattle.std.proofs.Math.Path.{refl, sym, ap}
use Rattle.std.proofs.Common.{◌∙◌, zero-add, le-leb, leb-true, leb-false, ltb-true, ltb-false}
use Rattle.std.proofs.Math.Bool.{true, false, not}
use mathlib.Core.List.{List, [], ◌∷◌, ◌++◌, map}
use native.Mathlib.Omega.{arith}
use Rattle.std.proofs.Math.ListN.{length, length-append}
use Rattle.std.proofs.lemmas.List.Edits.{sets}
use Rattle.std.proofs.Math.Seq.{length-sets}
use Rattle.std.proofs.lemmas.Bool.{lt-leb}
use Rattle.heads.specs.Laws.{sets_append}
use Rattle.answers.specs.Said.{refused, says}
use Rattle.ways.specs.Schedules.{Move, schedules}
use Rattle.entries.specs.Texts.{counts}
use Rattle.search.specs.declared.Asked.{Asked}
use Rattle.search.specs.declared.Listed.{Listed}
use Rattle.search.specs.declared.Stop.TheVariants.{Going, Cut, Full}
use Rattle.search.specs.declared.What.{What}
use Rattle.search.specs.declared.What.TheVariants.{Count, Tally, Measure, Write}
use Rattle.search.specs.Walk.{sizes_of, ops_of, entry_text, State, more, is_going, is_full, shut, fits, noted, written, entered}
use Rattle.search.specs.Walk.{emitted, listing, none, listed_of, asks}
use Rattle.search.proofs.Emits.{emit_bound, emit_open}
use Rattle.search.proofs.Laws.{listing_closed}
use Rattle.tries.specs.Tries.{joined, more_than, texts, Answer, listed_in}

-- what becomes of the room
unfoldable puts : What → List ℕ → ℕ → List ℕ → List ℕ
puts Count room p x = room
puts Tally room p x = room
puts Measure room p x = room
puts Write room p x = sets room p x

-- texts are measured or written
abbrev Textual : What → Type 0
Textual w = (a : Asked) (ws cs : List ℕ) (l : Listed) (room us : List ℕ)
    → (fits (entry_text a ws cs) l room ≡ true
    → entered a ws cs w (l, (room, us)) ≡ (more (length (entry_text a ws cs)) l, (puts w room l.at (entry_text a ws cs), us)))
    × (fits (entry_text a ws cs) l room ≡ false → entered a ws cs w (l, (room, us)) ≡ (shut Full l, (room, us)))

measures : Textual Measure
unfolding entered noted puts
measures a ws cs l room us = (λ h. rw h refl, λ h. rw h refl)

writes : Textual Write
unfolding entered noted written puts
writes a ws cs l room us = (λ h. rw h refl, λ h. rw h refl)

puts_length : (w : What) (room : List ℕ) (p : ℕ) (x : List ℕ) → length (puts w room p x) ≡ length room
unfolding puts
puts_length Count room p x = refl
puts_length Tally room p x = refl
puts_length Measure room p x = refl
puts_length Write room p x = length-sets room p x

puts_none : (w : What) (room : List ℕ) (p : ℕ) → puts w room p [] ≡ room
unfolding puts
puts_none Count room p = refl
puts_none Tally room p = refl
puts_none Measure room p = refl
puts_none Write room p = refl

puts_on : (w : What) (room : List ℕ) (p : ℕ) (x y : List ℕ) → puts w (puts w room p x) (p + length x) y ≡ puts w room p (x ++ y)
unfolding puts
puts_on Count room p x y = refl
puts_on Tally room p x y = refl
puts_on Measure room p x y = refl
puts_on Write room p x y = sym (sets_append room p x y)

-- so many listed, so many bytes, and whether there are more
abbrev so : ℕ → ℕ → Bool → Listed
so c p more = record { count = c; at = p; stop = cond more Cut Going }

module _ (a : Asked) (ws us : List ℕ) (textual : Textual a.what) where
  abbrev each : List (List Move) → List (List ℕ)
  each mss = map (λ ms. entry_text a ws (counts 0 ms)) mss

  abbrev put : List ℕ → ℕ → List ℕ → List ℕ
  put room p x = puts a.what room p x

  -- m more are wanted
  abbrev Is : List (List ℕ) → ℕ → ℕ → ℕ → List ℕ → State
  Is ts m c p room = (so (c + length (take m ts)) (p + length (joined (take m ts))) (more_than m ts), (put room p (joined (take m ts)), us))

  is_none : (m c p : ℕ) (room : List ℕ) → (so c p false, (room, us)) ≡ Is [] m c p room
  unfolding joined more_than
  is_none m c p room =
      let x : c ≡ c + 0 = omega arith in
      let y : p ≡ p + 0 = omega arith in
      ap (λ (i : ℕ). (so i p false, (room, us))) x
      ∙ ap (λ (i : ℕ). (so (c + 0) i false, (room, us))) y
      ∙ ap (λ (r : List ℕ). (so (c + 0) (p + 0) false, (r, us))) (sym (puts_none a.what room p))
      ∙ by m
    where
      by : (m : ℕ) → (so (c + 0) (p + 0) false, (put room p [], us)) ≡ Is [] m c p room
      by zero = refl
      by (suc m) = refl

  cut_is : (t : List ℕ) (ts : List (List ℕ)) (c p : ℕ) (room : List ℕ) → (so c p true, (room, us)) ≡ Is (t ∷ ts) 0 c p room
  unfolding joined more_than
  cut_is t ts c p room =
      let x : c ≡ c + 0 = omega arith in
      let y : p ≡ p + 0 = omega arith in
      ap (λ (i : ℕ). (so i p true, (room, us))) x
      ∙ ap (λ (i : ℕ). (so (c + 0) i true, (room, us))) y
      ∙ ap (λ (r : List ℕ). (so (c + 0) (p + 0) true, (r, us))) (sym (puts_none a.what room p))

  one_more : (t : List ℕ) (ts : List (List ℕ)) (m c p : ℕ) (room : List ℕ)
      → Is ts m (c + 1) (p + length t) (put room p t) ≡ Is (t ∷ ts) (suc m) c p room
  unfolding joined more_than
  one_more t ts m c p room =
      let js : List ℕ = joined (take m ts) in
      let k : ℕ = length (take m ts) in
      let x : c + 1 + k ≡ c + suc k = omega arith in
      let l = length-append t js in
      let y : p + length t + length js ≡ p + length (t ++ js) = omega (arith, l) in
      ap (λ (i : ℕ). (so i (p + length t + length js) (more_than m ts), (put (put room p t) (p + length t) js, us))) x
      ∙ ap (λ (i : ℕ). (so (c + suc k) i (more_than m ts), (put (put room p t) (p + length t) js, us))) y
      ∙ ap (λ (r : List ℕ). (so (c + suc k) (p + length (t ++ js)) (more_than m ts), (r, us))) (puts_on a.what room p t js)

  emit_one : (cs : List ℕ) (m c p : ℕ) (room : List ℕ) → a.bound ≡ c + suc m → p + length (entry_text a ws cs) ≤ length room
      → emitted a ws cs (so c p false, (room, us))
      ≡ (so (c + 1) (p + length (entry_text a ws cs)) false, (put room p (entry_text a ws cs), us))
  emit_one cs m c p room e h =
      emit_open a ws cs (so c p false, (room, us)) refl (omega arith)
      ∙ (textual a ws cs (so c p false) room us).0 (le-leb (p + length (entry_text a ws cs)) (length room) h)

  emit_full : (cs : List ℕ) (m c p : ℕ) (room : List ℕ) → a.bound ≡ c + suc m → length room < p + length (entry_text a ws cs)
      → emitted a ws cs (so c p false, (room, us)) ≡ (shut Full (so c p false), (room, us))
  emit_full cs m c p room e h =
      emit_open a ws cs (so c p false, (room, us)) refl (omega arith)
      ∙ (textual a ws cs (so c p false) room us).1 (lt-leb (p + length (entry_text a ws cs)) (length room) h)

  -- the first m of them, where they fit; there are more exactly where there are more than m
  listing_is : (mss : List (List Move)) (m c p : ℕ) (room : List ℕ) → a.bound ≡ c + m
      → p + length (joined (take m (each mss))) ≤ length room
      → listing a ws [] 0 mss (so c p false, (room, us)) ≡ Is (each mss) m c p room
  unfolding listing joined
  listing_is [] m c p room e h = is_none m c p room
  listing_is (x ∷ xs) zero c p room e h =
      ap (listing a ws [] 0 xs) (emit_bound a ws (counts 0 x) (so c p false) (so c p true) (room, us) refl (omega arith) refl)
      ∙ listing_closed a ws [] 0 xs (so c p true, (room, us)) refl
      ∙ cut_is (entry_text a ws (counts 0 x)) (each xs) c p room
  listing_is (x ∷ xs) (suc m) c p room e h =
      let t : List ℕ = entry_text a ws (counts 0 x) in
      let l = length-append t (joined (take m (each xs))) in
      let d = puts_length a.what room p t in
      ap (listing a ws [] 0 xs) (emit_one (counts 0 x) m c p room e (omega (arith, l, h)))
      ∙ listing_is xs m (c + 1) (p + length t) (put room p t) (omega arith) (omega (arith, l, h, d))
      ∙ one_more t (each xs) m c p room

  -- where the first m do not fit, it is full
  listing_full : (mss : List (List Move)) (m c p : ℕ) (room : List ℕ) → a.bound ≡ c + m → p ≤ length room
      → length room < p + length (joined (take m (each mss))) → (listing a ws [] 0 mss (so c p false, (room, us))).0.stop ≡ Full
  unfolding listing joined
  listing_full [] zero c p room e q h = absurd (omega arith)
  listing_full [] (suc m) c p room e q h = absurd (omega arith)
  listing_full (x ∷ xs) zero c p room e q h = absurd (omega arith)
  listing_full (x ∷ xs) (suc m) c p room e q h =
      by (leb (p + length (entry_text a ws (counts 0 x))) (length room)) refl
      (listing_full xs m (c + 1) (p + length (entry_text a ws (counts 0 x))) (put room p (entry_text a ws (counts 0 x))) (omega arith))
    where
      t : List ℕ
      t = entry_text a ws (counts 0 x)

      by : (b : Bool) → leb (p + length t) (length room) ≡ b
          → (p + length t ≤ length (put room p t) → length (put room p t) < p + length t + length (joined (take m (each xs)))
          → (listing a ws [] 0 xs (so (c + 1) (p + length t) false, (put room p t, us))).0.stop ≡ Full)
          → (listing a ws [] 0 xs (emitted a ws (counts 0 x) (so c p false, (room, us)))).0.stop ≡ Full
      by true z ih =
          let k = leb-true (p + length t) (length room) z in
          let l = length-append t (joined (take m (each xs))) in
          let d = puts_length a.what room p t in
          ap (λ (s : State). (listing a ws [] 0 xs s).0.stop) (emit_one (counts 0 x) m c p room e k)
          ∙ ih (omega (arith, d, k)) (omega (arith, d, l, h))
      by false z ih =
          let k = leb-false (p + length t) (length room) z in
          ap (λ (s : State). (listing a ws [] 0 xs s).0.stop) (emit_full (counts 0 x) m c p room e k)
          ∙ ap (λ (s : State). s.0.stop) (listing_closed a ws [] 0 xs (shut Full (so c p false), (room, us)) refl)

-- ---- the answer

length_take_low : {A : Type 0} (n : ℕ) (xs : List A) → length (take n xs) ≤ n
length_take_low zero xs = omega arith
length_take_low (suc n) [] = omega arith
length_take_low (suc n) (x ∷ xs) = let h = length_take_low n xs in omega (arith, h)

module _ (a : Asked) (ws : List ℕ) where
  abbrev all : List (List ℕ)
  all = texts (sizes_of a) (ops_of a ws)

  abbrev wanted : List (List ℕ)
  wanted = take a.bound all

  -- the room is too small for the texts that are wanted
  abbrev pub short : List ℕ → Bool
  short room = ltb (length room) (length (joined wanted))

  pub refused_so : (room : List ℕ) → short room ≡ true → listed_in all a.bound room ≡ (refused 12, room)
  unfolding listed_in
  refused_so room h = rw h refl

-- the tests of how it stops
never_full : (more : Bool) → is_full (cond more Cut Going) ≡ false
never_full true = refl
never_full false = refl

told_more : (more : Bool) → not (is_going (cond more Cut Going)) ≡ more
told_more true = refl
told_more false = refl

module _ (a : Asked) (ws room us : List ℕ) where
  abbrev first : List (List ℕ)
  first = wanted a ws

  abbrev listed : List ℕ → State
  listed out = (so (length first) (length (joined first)) (more_than a.bound (all a ws)), (out, us))

  list_fits : (w : What) → Textual w → length (joined first) ≤ length room
      → listed_of (asks w a) ws room us ≡ listed (puts w room 0 (joined first))
  unfolding listed_of entry_text
  list_fits w textual h =
      let m : ℕ = a.bound in
      let out : List ℕ × List ℕ = (puts w room 0 (joined first), us) in
      listing_is (asks w a) ws us textual (schedules (sizes_of a) (ops_of a ws)) m 0 0 room (sym (zero-add m)) (omega (arith, h))
      ∙ ap (λ (i : ℕ). (so i (0 + length (joined first)) (more_than m (all a ws)), out)) (zero-add (length first))
      ∙ ap (λ (i : ℕ). (so (length first) i (more_than m (all a ws)), out)) (zero-add (length (joined first)))

  list_full : (w : What) → Textual w → length room < length (joined first) → (listed_of (asks w a) ws room us).0.stop ≡ Full
  unfolding listed_of entry_text
  list_full w textual h =
      let m : ℕ = a.bound in
      listing_full (asks w a) ws us textual (schedules (sizes_of a) (ops_of a ws)) m 0 0 room (sym (zero-add m))
      (omega arith) (omega (arith, h))

  -- measuring leaves the room and the tallies
  kept : (cs : List ℕ) (st : State) → (emitted (asks Measure a) ws cs st).1 ≡ st.1
  unfolding emitted entered
  kept cs st = by (is_going st.0.stop) (leb a.bound st.0.count)
    where
      by : (x y : Bool)
          → (cond {A = State} x (cond {A = State} y (shut Cut st.0, st.1) (entered (asks Measure a) ws cs Measure st)) st).1
          ≡ st.1
      by false y = refl
      by true true = refl
      by true false = refl

  keeps : (mss : List (List Move)) (st : State) → (listing (asks Measure a) ws [] 0 mss st).1 ≡ st.1
  unfolding listing
  keeps [] st = refl
  keeps (ms ∷ mss) st = keeps mss (emitted (asks Measure a) ws (counts 0 ms) st) ∙ kept (counts 0 ms) st

  measured_keeps : (listed_of (asks Measure a) ws room us).1 ≡ (room, us)
  unfolding listed_of
  measured_keeps = keeps (schedules (sizes_of a) (ops_of a ws)) (none, (room, us))

  module _ (m : Listed) (after vs : List ℕ) (e : listed_of (asks Measure a) ws room us ≡ (m, (after, vs))) where
    pub unwritten : after ≡ room
    unwritten = ap (λ (x : List ℕ × List ℕ). x.0) (sym (ap (λ (st : State). st.1) e) ∙ measured_keeps)

    pub measured_short : is_full m.stop ≡ short a ws room
    measured_short = sym (ap (λ (st : State). is_full st.0.stop) e) ∙ by (short a ws room) refl
      where
        by : (b : Bool) → short a ws room ≡ b → is_full (listed_of (asks Measure a) ws room us).0.stop ≡ b
        by true y = ap is_full (list_full Measure measures (ltb-true _ _ y))
        by false y =
            ap (λ (st : State). is_full st.0.stop) (list_fits Measure measures (ltb-false _ _ y))
            ∙ never_full (more_than a.bound (all a ws))

  module _ (l : Listed) (out ts : List ℕ) (h : short a ws room ≡ false) (f : listed_of (asks Write a) ws room us ≡ (l, (out, ts))) where
    written_is : ◌≡◌ {A = State} (l, (out, ts)) (listed (sets room 0 (joined first)))
    unfolding puts
    written_is = sym f ∙ list_fits Write writes (ltb-false _ _ h)

    pub count_low : a.bound ≤ 4294967295 → l.count < 4294967296
    count_low k =
        let c : l.count ≡ length first = ap (λ (st : State). st.0.count) written_is in
        omega (arith, c, length_take_low a.bound (all a ws))

    pub written_so : listed_in (all a ws) a.bound room ≡ (says (l.count, (l.at, not (is_going l.stop))), out)
    unfolding listed_in
    written_so =
        let answer : State → Answer = λ st. (says (st.0.count, (st.0.at, not (is_going st.0.stop))), st.1.0) in
        rw (h, ← told_more (more_than a.bound (all a ws))) (sym (ap answer written_is))
