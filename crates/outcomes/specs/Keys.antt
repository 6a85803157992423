-- A key tells its sixteen numbers, so that different outcomes have different keys.
use Prim.Native.Nat.{ℕ, zero, suc, ◌+◌, ◌*◌, ◌/◌, ◌%◌, ◌<◌}
use Rattle.std.specs.Prelude.{◌≡◌, refl, List, length}
use Rattle.std.proofs.Common.{sym, ◌∙◌, ext_get_or}
use Rattle.std.proofs.Math.Path.{ap}
use native.Mathlib.Omega.{arith}
use Rattle.std.proofs.Math.ListN.{get_or}
use Rattle.outcomes.specs.Tallies.{Key, word_of, key_of}
use Rattle.outcomes.specs.Lines.{part_of}

-- the numbers have 16 bits
abbrev pub Small : List ℕ → Type 0
Small xs = (i : ℕ) → get_or xs i 0 < 65536

-- ---- a word's four numbers

part_first : (a b c d : ℕ) → a < 65536 → part_of (((d * 65536 + c) * 65536 + b) * 65536 + a) 0 ≡ a
unfolding part_of
part_first a b c d ha = omega arith

part_second : (a b c d : ℕ) → a < 65536 → b < 65536 → part_of (((d * 65536 + c) * 65536 + b) * 65536 + a) 1 ≡ b
unfolding part_of
part_second a b c d ha hb = omega arith

part_third : (a b c d : ℕ) → a < 65536 → b < 65536 → c < 65536 → part_of (((d * 65536 + c) * 65536 + b) * 65536 + a) 2 ≡ c
unfolding part_of
part_third a b c d ha hb hc = omega arith

part_fourth : (a b c d : ℕ) → a < 65536 → b < 65536 → c < 65536 → d < 65536
    → part_of (((d * 65536 + c) * 65536 + b) * 65536 + a) 3 ≡ d
unfolding part_of
part_fourth a b c d ha hb hc hd = omega arith

module _ (xs : List ℕ) (small : Small xs) (i : ℕ) where
  word_tells : (j : ℕ) → j < 4 → part_of (word_of xs i) j ≡ get_or xs (i + j) 0
  unfolding word_of
  word_tells zero h = let e : i ≡ i + 0 = omega arith in part_first _ _ _ _ (small i) ∙ ap (λ (k : ℕ). get_or xs k 0) e
  word_tells (suc zero) h = part_second _ _ _ _ (small i) (small (i + 1))
  word_tells (suc (suc zero)) h = part_third _ _ _ _ (small i) (small (i + 1)) (small (i + 2))
  word_tells (suc (suc (suc zero))) h = part_fourth _ _ _ _ (small i) (small (i + 1)) (small (i + 2)) (small (i + 3))
  word_tells (suc (suc (suc (suc j)))) h = absurd (omega arith)

-- ---- a key's sixteen

key_word_holds : (xs : List ℕ) (w : ℕ) → w < 4 → get_or (key_of xs) w 0 ≡ word_of xs (4 * w)
unfolding key_of
key_word_holds xs zero h = refl
key_word_holds xs (suc zero) h = refl
key_word_holds xs (suc (suc zero)) h = refl
key_word_holds xs (suc (suc (suc zero))) h = refl
key_word_holds xs (suc (suc (suc (suc w)))) h = absurd (omega arith)

key_tells : (xs : List ℕ) → Small xs → (j : ℕ) → j < 16 → part_of (get_or (key_of xs) (j / 4) 0) (j % 4) ≡ get_or xs j 0
key_tells xs small j h =
    let e : 4 * (j / 4) + j % 4 ≡ j = omega arith in
    ap (λ (w : ℕ). part_of w (j % 4)) (key_word_holds xs (j / 4) (omega arith))
    ∙ word_tells xs small (4 * (j / 4)) (j % 4) (omega arith)
    ∙ ap (λ (k : ℕ). get_or xs k 0) e

pub same_key : (xs ys : List ℕ) → Small xs → Small ys → length xs ≡ 16 → length ys ≡ 16 → key_of xs ≡ key_of ys → xs ≡ ys
same_key xs ys small small' l l' e =
    ext_get_or 0 xs ys (l ∙ sym l')
    (λ j h.
    sym (key_tells xs small j (omega arith))
    ∙ ap (λ (k : Key). part_of (get_or k (j / 4) 0) (j % 4)) e
    ∙ key_tells ys small' j (omega arith))
