-- Noting piece after piece notes it all.
use Prim.Native.Nat.{ℕ, suc, ◌+◌, ◌-◌, ◌≤◌, ◌<◌}
use denote.Ref.{Bor}
use Rattle.std.specs.Prelude.{◌≡◌, refl, map, length, take, drop, get_or, set}
use Rattle.std.proofs.Math.Path.{ap}
use Rattle.std.proofs.Common.{◌∙◌, length-append, drop_of_length-le, drop-cons, lt-ltb, le-ltb}
use mathlib.Core.List.{List, [], ◌∷◌, ◌++◌, append_assoc, map-append}
use native.Mathlib.Omega.{arith}
use Rattle.std.proofs.Math.Numerals.{add-one}
use Rattle.std.proofs.Math.Seq.{take-nil, set-append_seam}
use Rattle.outcomes.specs.Notes.{Notes, note_one, note, over}

pub note_in : (n : ℕ) (room : List ℕ) (x : ℕ) → n < length room → note_one (n, room) x ≡ (n + 1, set room n x)
unfolding note_one
note_in n room x h = rw (lt-ltb n (length room) h) refl

pub note_out : (n : ℕ) (room : List ℕ) (x : ℕ) → length room ≤ n → note_one (n, room) x ≡ (n, room)
unfolding note_one
note_out n room x h = rw (le-ltb n (length room) h) refl

pub note_append : (x : Notes) (bs cs : List ℕ) → note x (bs ++ cs) ≡ note (note x bs) cs
unfolding note
note_append x [] cs = refl
note_append x (b ∷ bs) cs = note_append (note_one x b) bs cs

pub note_then : {y z : Notes} (x : Notes) (bs cs : List ℕ) → note x bs ≡ y → note y cs ≡ z → note x (bs ++ cs) ≡ z
note_then x bs cs e f = note_append x bs cs ∙ rw e f

pub note_first : {y z : Notes} (x : Notes) (b : ℕ) (bs : List ℕ) → note_one x b ≡ y → note y bs ≡ z → note x (b ∷ bs) ≡ z
unfolding note
note_first x b bs e f = rw e f

pub note_last : {y z : Notes} (x : Notes) (bs : List ℕ) (b : ℕ) → note x bs ≡ y → note_one y b ≡ z → note x (bs ++ (b ∷ [])) ≡ z
unfolding note
note_last x bs b e f = note_then x bs (b ∷ []) e f

pub note_only : {y : Notes} (x : Notes) (b : ℕ) → note_one x b ≡ y → note x (b ∷ []) ≡ y
unfolding note
note_only x b e = e

-- numbers that an iterator yields: one more
pub note_yielded : {y z : Notes} (x : Notes) (xs : List (Bor ℕ)) (b : Bor ℕ) → note x (map (λ r. r.now) xs) ≡ y → note_one y b.now ≡ z
    → note x (map (λ r. r.now) (xs ++ (b ∷ []))) ≡ z
note_yielded x xs b e f = rw map-append (note_last x _ b.now e f)

-- the first m of the numbers: one more, or none
module _ (x : Notes) (ns : List ℕ) (m i : ℕ) where
  pub note_more : {y : Notes} → i < length ns → i < m → note_one x (get_or ns i 0) ≡ y
      → note x (take (m - i) (drop i ns)) ≡ note y (take (m - (i + 1)) (drop (i + 1) ns))
  unfolding note
  note_more h l e =
      let one : m - i ≡ suc (m - (i + 1)) = omega arith in
      ap (λ (k : ℕ). note x (take k (drop i ns))) one
      ∙ ap (λ (s : List ℕ). note x (take (suc (m - (i + 1))) s)) (drop-cons ns i 0 h)
      ∙ ap (λ (w : Notes). note w (take (m - (i + 1)) (drop (suc i) ns))) e
      ∙ rw add-one

  pub note_enough : m ≤ i → note x (take (m - i) (drop i ns)) ≡ x
  unfolding note
  note_enough h = let none : m - i ≡ 0 = omega arith in rw none

  pub note_none : length ns ≤ i → note x (take (m - i) (drop i ns)) ≡ x
  unfolding note
  note_none h = rw (drop_of_length-le ns {i = i} h, take-nil)

pub note_start : (x : Notes) (ns : List ℕ) (m : ℕ) → note x (take m ns) ≡ note x (take (m - 0) (drop 0 ns))
note_start x ns m = let e : m ≡ m - 0 = omega arith in ap (λ (k : ℕ). note x (take k ns)) e

-- ---- all of it, from place 0 on

over_none : (room : List ℕ) → room ≡ over room []
unfolding over
over_none [] = refl
over_none (r ∷ room) = refl

over_full : (xs : List ℕ) → [] ≡ over [] xs
unfolding over
over_full xs = refl

note_behind : (done room xs : List ℕ) → (note (length done, done ++ room) xs).1 ≡ done ++ over room xs
unfolding note over
note_behind done room [] = ap (λ (l : List ℕ). done ++ l) (over_none room)
note_behind done [] (x ∷ xs) =
    let full : length (done ++ []) ≤ length done = rw length-append (omega arith) in
    ap (λ (w : Notes). (note w xs).1) (note_out (length done) (done ++ []) x full) ∙ note_behind done [] xs
note_behind done (r ∷ room) (x ∷ xs) =
    let fits : length done < length (done ++ (r ∷ room)) = rw length-append (omega arith) in
    let more : length (done ++ (x ∷ [])) ≡ length done + 1 = length-append done (x ∷ []) in
    ap (λ (w : Notes). (note w xs).1) (note_in (length done) (done ++ (r ∷ room)) x fits)
    ∙ simp set-append_seam (simp (append_assoc, more) at (note_behind (done ++ (x ∷ [])) room xs))

pub note_all : (room xs : List ℕ) → (note (0, room) xs).1 ≡ over room xs
note_all room xs = note_behind [] room xs
