-- A listing gives no more nodes than its room has.
use Rattle.std.specs.Prelude.{ℕ, ◌≤◌, refl, List, ◌++◌, Bool, true, false, cond, ltb, Option, Some, None}
use Rattle.std.proofs.Math.Path.{◌≡◌, ap}
use Rattle.std.proofs.Common.{arith}
use Rattle.std.proofs.Math.ListN.{length, drop, length-append}
use borrow.Author.Tests.{ltb-false}
use Rattle.words.specs.declared.Sizes.{Sizes}
use Rattle.words.specs.declared.Queue.{Queue}
use Rattle.words.specs.Layout.{measured}
use Rattle.answers.specs.Said.{Said, refused, says}
use Rattle.conditions.specs.Conditions.{no_queue, unquiet}
use Rattle.asks.specs.Listing.{nodes_of, listed, listing_sized, listing_measured, listing_of}

module _ (n : ℕ) (after room : List ℕ) where
  -- no more than the room has, before and after
  abbrev InBoth : Type 0
  InBoth = (n ≤ length room) × (n ≤ length after)

  not_refused : (b : Bool) (r : ℕ) (y : Said ℕ × List ℕ) → (b ≡ false → y ≡ (says n, after) → InBoth)
      → cond b (refused r, room) y ≡ (says n, after) → InBoth
  not_refused true r y k e =
      let f : ◌≡◌ {A = Said ℕ} (refused r) (says n) = ap (λ q. q.0) e in let z : ◌≡◌ {A = ℕ} 0 1 = cc in absurd (omega arith)
  not_refused false r y k e = k refl e

  listed_count : (o : Option (List ℕ)) → listed o room ≡ (says n, after) → InBoth
  unfolding listed
  listed_count None e =
      let f : ◌≡◌ {A = Said ℕ} (refused 10) (says n) = ap (λ q. q.0) e in let z : ◌≡◌ {A = ℕ} 0 1 = cc in absurd (omega arith)
  listed_count (Some ns) e =
      not_refused (ltb (length room) (length ns)) 12 _
      (λ b g.
      let f : says (length ns) ≡ says n = ap (λ q. q.0) g in
      let k : length ns ≡ n = cc in
      let l : ns ++ drop (length ns) room ≡ after = ap (λ q. q.1) g in
      omega (arith, ltb-false (length room) (length ns) b, length-append ns (drop (length ns) room), ap length l))
      e

pub listing_count : (t : List ℕ) (q : Queue) (room after : List ℕ) (n : ℕ) → listing_of t q room ≡ (says n, after)
    → (n ≤ length room) × (n ≤ length after)
unfolding listing_of listing_measured listing_sized
listing_count t q room after n h = by (measured t) h
  where
    by : (m : Option Sizes) → listing_measured t q room m ≡ (says n, after) → (n ≤ length room) × (n ≤ length after)
    by None e = let f : ◌≡◌ {A = Said ℕ} (refused 1) (says n) = ap (λ q. q.0) e in let z : ◌≡◌ {A = ℕ} 0 1 = cc in absurd (omega arith)
    by (Some s) e =
        not_refused n after room (no_queue s q) 4 _
        (λ _. not_refused n after room (unquiet s t q) 11 _ (λ _. listed_count n after room (nodes_of s t q)))
        e
