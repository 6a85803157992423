-- A text has at most 202 bytes, so a room with as many for each text that is wanted is not too small: nothing need be measured.
use Prim.Native.Nat.{ℕ, zero, suc, ◌*◌, ◌≤◌}
use Rattle.std.specs.Prelude.{◌≡◌, false, length, take}
use mathlib.Core.List.{List, [], ◌∷◌, map}
use native.Mathlib.Omega.{arith}
use Rattle.std.proofs.Math.ListN.{length-append}
use Rattle.std.proofs.Common.{le-ltb}
use Rattle.ways.specs.Schedules.{Move, schedules}
use Rattle.entries.specs.Texts.{counts, schedule_text}
use Rattle.entries.proofs.Entries.{text_top}
use Rattle.search.specs.declared.Asked.{Asked}
use Rattle.search.specs.Walk.{sizes_of, ops_of}
use Rattle.tries.specs.Tries.{joined, texts}
use Rattle.tries.specs.Listed.{short}

module _ (a : Asked) (ws : List ℕ) (few : a.operations ≤ 6) where
  abbrev text : List Move → List ℕ
  text = schedule_text (sizes_of a) (ops_of a ws)

  joined_top : (m : ℕ) (mss : List (List Move)) → length (joined (take m (map text mss))) ≤ 202 * m
  unfolding joined
  joined_top zero mss = omega arith
  joined_top (suc m) [] = omega arith
  joined_top (suc m) (ms ∷ mss) =
      let one = text_top (sizes_of a) ws (counts 0 ms) a.operations few in
      omega (arith, length-append (text ms) (joined (take m (map text mss))), one, joined_top m mss)

  pub ample : (room : List ℕ) → 202 * a.bound ≤ length room → short a ws room ≡ false
  ample room h =
      let all = joined_top a.bound (schedules (sizes_of a) (ops_of a ws)) in
      le-ltb (length room) (length (joined (take a.bound (texts (sizes_of a) (ops_of a ws))))) (omega (arith, h, all))
