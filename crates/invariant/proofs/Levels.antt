-- One level's frame changes: what that means for the levels below it and for facts of all levels.
use Prim.Native.Nat.{ℕ, ◌≤◌, ◌<◌}
use mathlib.Core.Path.{◌≡◌, refl, sym}
use mathlib.Core.Logic.{◌≢◌}
use mathlib.Core.Bool.{Bool, true, false}
use mathlib.Core.List.{[], ◌++◌, append-nil}
use native.Mathlib.Omega.{arith}
use lib.Dec.{eqb, ltb}
use borrow.Author.Tests.{ltb-true, ltb-false}
use Rattle.words.specs.declared.Frame.{Frame}
use Rattle.lists.specs.Count.{Same, same, apart, same?, counts}
use Rattle.state.specs.Mem.{put, put_same, put_other}
use Rattle.invariant.specs.Ghost.{Stack, lists, flight}
use Rattle.invariant.specs.Facts.{View, Pile, bottom, upon}
use Rattle.invariant.proofs.Keep.{upon', keep_all, the_same}

-- a fact of every level: of l with its new frame, and of the others
pub each : (fr : ℕ → Frame) (l : ℕ) (P : ℕ → Frame → Type 0) (g : Frame) → P l g → ((j : ℕ) → j ≢ l → P j (fr j)) → (j : ℕ)
    → P j (put fr l g j)
each fr l P g h k j = by (eqb j l) (same? j l)
  where
    by : (t : Bool) → Same j l t → P j (put fr l g j)
    by true (same e) = rw (e, put_same fr l g) h
    by false (apart e) = rw (put_other fr l g j e) (k j e)

-- a pile reads only the frames of its levels
pub same_frames : {top q l : ℕ} {v : View} {st : Stack} {b : Bool} (fr : ℕ → Frame) (g : Frame) → l ≤ top
    → Pile top q v fr l st b → Pile top q v (put fr l g) l st b
same_frames {l = l} {v = v} {st = st} fr g h d =
    keep_all v v fr (put fr l g) l (lists st ++ flight st) h (λ j m. put_other fr l g j (omega arith)) (λ j m. refl)
    (λ j m. refl) (λ y m. refl)
    (λ j m n. the_same refl [] (sym (append-nil v.settled)) (λ y r. refl)) (omega arith) (λ y. simp counts (omega arith))
    (λ r. refl) d

-- and stands below every higher level
pub raise : {top q l n : ℕ} {v : View} {fr : ℕ → Frame} {st : Stack} {b : Bool} → l ≤ n → Pile top q v fr l st b
    → Pile top q v fr n st b
raise h bottom = bottom
raise h (upon a o e t d) = upon' (omega arith) o e t d

-- and above it there is none, where no frame runs from l on
pub sink : {top q l n : ℕ} {v : View} {fr : ℕ → Frame} {st : Stack} {b : Bool} → ((j : ℕ) → l ≤ j → (fr j).op ≡ 0)
    → Pile top q v fr n st b → Pile top q v fr l st b
sink h bottom = bottom
sink {l = l} h (upon {l = j} a o e t d) = upon' (by (ltb j l) refl) o e t d
  where
    by : (t : Bool) → ltb j l ≡ t → j < l
    by true k = ltb-true j l k
    by false k = absurd (omega (arith, h j (ltb-false j l k), o))
