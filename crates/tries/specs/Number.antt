-- How many schedules there are: fewer than a u64 holds, so that all can be counted without a bound, and the outcomes of all.
use Rattle.std.specs.Prelude.{ℕ, zero, suc, ◌+◌, ◌*◌, ◌≤◌, ◌<◌, ◌≡◌, Bool, true, false, cond, length}
use Rattle.std.proofs.Math.Path.{refl, sym, ap}
use Rattle.std.proofs.Common.{◌∙◌, mul-le-mul, length-append}
use mathlib.Core.List.{List, [], ◌∷◌, ◌++◌}
use native.Mathlib.Omega.{arith}
use Rattle.std.proofs.Math.Nat.{zero-add}
use Rattle.std.proofs.lemmas.List.{length-map}
use Rattle.ways.specs.declared.Op.{Op}
use Rattle.ways.specs.Schedules.{Move, step, begin, stepped, begun, idle, ending, after}
use Rattle.ways.specs.Schedules.{by_step, both, most_moves, fresh, schedules}
use Rattle.entries.specs.Texts.{counts}
use Rattle.outcomes.specs.Tallies.{tallied}
use Rattle.search.specs.declared.Asked.{Asked}
use Rattle.search.specs.declared.Listed.{Listed}
use Rattle.search.specs.declared.What.{What}
use Rattle.search.specs.declared.What.TheVariants.{Count, Tally, Measure, Write}
use Rattle.search.proofs.Emits.{ops_length, emit_open}
use Rattle.search.specs.Walk.{sizes_of, ops_of, State, more, is_going, entered, emitted, listing, none, listed_of}
use Rattle.tries.specs.Tries.{tallied_all}

-- ---- a bound: with r operations and fewer than n moves there are at most n to the power of r

unfoldable power : ℕ → ℕ → ℕ
power n zero = 1
power n (suc r) = n * power n r

power_one : (n r : ℕ) → 1 ≤ power (suc n) r
unfolding power
power_one n zero = omega arith
power_one n (suc r) = let k : 1 ≤ suc n = omega arith in omega (arith, mul-le-mul k (power_one n r))

power_more : (n r : ℕ) → power n r ≤ power (suc n) r
unfolding power
power_more n zero = omega arith
power_more n (suc r) = let k : n ≤ suc n = omega arith in mul-le-mul k (power_more n r)

power_is : (n r : ℕ) → power n (suc r) ≡ n * power n r
unfolding power
power_is n r = refl

power_sum : (n r : ℕ) → n * power n r + power n r ≤ power (suc n) (suc r)
unfolding power
power_sum n r =
    let k : suc n ≤ suc n = omega arith in
    let h = mul-le-mul k (power_more n r) in
    let e : suc n * power n r ≡ n * power n r + power n r = omega arith in
    omega (arith, h, e)

-- a cond of a list and none
low : (b : Bool) (n : ℕ) (xs : List (List Move)) → length xs ≤ n → length (cond b xs []) ≤ n
low true n xs h = h
low false n xs h = omega arith

after_length : (m : Move) (xs : List (List Move)) → length (after m xs) ≡ length xs
after_length m xs = length-map xs (λ ms. m ∷ ms)

end_one : (left : ℕ) (t : List ℕ) → length (both left t []) ≤ 1
unfolding by_step ending
end_one zero t = omega arith
end_one (suc left) t = by (stepped t).0 (idle t) (end_one left (stepped t).1)
  where
    by : (b c : Bool) → length (both left (stepped t).1 []) ≤ 1
        → length (cond {A = List (List Move)} b (after step (both left (stepped t).1 []))
        (cond {A = List (List Move)} c ([] ∷ []) []) ++ []) ≤ 1
    by true c h =
        let xs : List (List Move) = after step (both left (stepped t).1 []) in
        omega (arith, h, after_length step (both left (stepped t).1 []), length-append xs [])
    by false true h = omega arith
    by false false h = omega arith

few : (left r : ℕ) (t : List ℕ) (ops : List Op) → length ops ≤ r → length (both left t ops) ≤ power (suc left) r
unfolding by_step ending
few left r t [] h = let e = end_one left t in let p = power_one left r in omega (arith, e, p)
few zero r t (o ∷ os) h = omega arith
few (suc left) zero t (o ∷ os) h = absurd (omega arith)
few (suc left) (suc r) t (o ∷ os) h =
    let u : List ℕ = (stepped t).1 in
    let v : List ℕ = (begun o t).1 in
    let xs : List (List Move) = after step (both left u (o ∷ os)) in
    let ys : List (List Move) = after begin (both left v os) in
    let x = low (stepped t).0 (power (suc left) (suc r)) xs
    (omega (arith, after_length step (both left u (o ∷ os)), few left (suc r) u (o ∷ os) h)) in
    let y = low (begun o t).0 (power (suc left) r) ys
    (omega (arith, after_length begin (both left v os), few left r v os (omega arith))) in
    let sum = length-append (cond (stepped t).0 xs []) (cond (begun o t).0 ys []) in
    omega (arith, x, y, sum, power_sum (suc left) r, power_is (suc left) r)

sixth : power 1346 6 ≡ 5946622357335109696
unfolding power
sixth = refl

-- six operations, and most_moves moves: 1,346 to the power of 6
pub number_low : (t : List ℕ) (ops : List Op) → length ops ≤ 6 → length (both most_moves t ops) < 18446744073709551615
number_low t ops h = let p = few most_moves 6 t ops h in omega (arith, p, sixth)

-- ---- counted

-- schedules are only counted, or their outcomes too
abbrev pub Counts : What → Type 0
Counts Count = Unit {0}
Counts Tally = Unit {0}
Counts Measure = ⊥
Counts Write = ⊥

abbrev pub Counting : Asked → Type 0
Counting a = Counts a.what × (a.bound ≡ 18446744073709551615)

module _ (a : Asked) (ws : List ℕ) where
  entered_counts : (cs : List ℕ) (w : What) (st : State) → Counts w → (entered a ws cs w st).0 ≡ more 0 st.0
  unfolding entered
  entered_counts cs Count st h = refl
  entered_counts cs Tally st h = refl
  entered_counts cs Measure st h = absurd h
  entered_counts cs Write st h = absurd h

  entered_tallies : (cs : List ℕ) (w : What) (st : State) → w ≡ Tally
      → (entered a ws cs w st).1.1 ≡ tallied (sizes_of a) ws a.operations cs st.1.1
  unfolding entered
  entered_tallies cs w st e = rw e refl

  tally_one : (cs : List ℕ) (st : State) → a.what ≡ Tally → is_going st.0.stop ≡ true → st.0.count < a.bound
      → (emitted a ws cs st).1.1 ≡ tallied (sizes_of a) ws a.operations cs st.1.1
  tally_one cs st w h k = ap (λ (x : State). x.1.1) (emit_open a ws cs st h k) ∙ entered_tallies cs a.what st w

  module _ (counting : Counts a.what) where
    count_one : (cs : List ℕ) (st : State) → is_going st.0.stop ≡ true → st.0.count < a.bound
        → ((emitted a ws cs st).0.count ≡ st.0.count + 1) × (is_going (emitted a ws cs st).0.stop ≡ true)
    count_one cs st h k =
        let one = ap (λ (x : State). x.0) (emit_open a ws cs st h k) ∙ entered_counts cs a.what st counting in
        (ap (λ (l : Listed). l.count) one, ap (λ (l : Listed). is_going l.stop) one ∙ h)

    count_is : (mss : List (List Move)) (st : State) → is_going st.0.stop ≡ true → st.0.count + length mss ≤ a.bound
        → (listing a ws [] 0 mss st).0.count ≡ st.0.count + length mss
    unfolding listing
    count_is [] st h k = omega arith
    count_is (ms ∷ mss) st h k =
        let one = count_one (counts 0 ms) st h (omega (arith, k)) in
        let others = count_is mss (emitted a ws (counts 0 ms) st) one.1 (omega (arith, k, one.0)) in
        omega (arith, others, one.0)

    tallies_are : (mss : List (List Move)) (st : State) → a.what ≡ Tally → is_going st.0.stop ≡ true → st.0.count + length mss ≤ a.bound
        → (listing a ws [] 0 mss st).1.1 ≡ tallied_all (sizes_of a) ws a.operations mss st.1.1
    unfolding listing tallied_all
    tallies_are [] st w h k = refl
    tallies_are (ms ∷ mss) st w h k =
        let one = count_one (counts 0 ms) st h (omega (arith, k)) in
        tallies_are mss (emitted a ws (counts 0 ms) st) w one.1 (omega (arith, k, one.0))
        ∙ ap (tallied_all (sizes_of a) ws a.operations mss) (tally_one (counts 0 ms) st w h (omega (arith, k)))

  module _ (room ts : List ℕ) (l : Listed) (out us : List ℕ) (few_so : a.operations ≤ 6) (counting : Counting a)
      (listed : listed_of a ws room ts ≡ (l, (out, us))) where
    abbrev all : List (List Move)
    all = schedules (sizes_of a) (ops_of a ws)

    bounded : 0 + length all ≤ a.bound
    unfolding schedules
    bounded =
        let ops = ops_length a.operations ws 0 in
        omega (arith, number_low (fresh (sizes_of a)) (ops_of a ws) (omega (arith, few_so, ops)), counting.1)

    pub counted_all : l.count ≡ length all
    unfolding listed_of
    counted_all =
        sym (ap (λ (x : State). x.0.count) listed)
        ∙ count_is counting.0 all (none, (room, ts)) refl bounded
        ∙ zero-add (length all)

    pub tallied_all_holds : a.what ≡ Tally → us ≡ tallied_all (sizes_of a) ws a.operations all ts
    unfolding listed_of
    tallied_all_holds w = sym (ap (λ (x : State). x.1.1) listed) ∙ tallies_are counting.0 all (none, (room, ts)) w refl bounded
