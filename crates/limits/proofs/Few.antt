-- How many nodes a queue has: never more than the table; no step adds one, and a begin adds one at most.
use Prim.Native.Nat.{ℕ, ◌+◌, ◌≤◌}
use mathlib.Core.Path.{◌≡◌, refl, ap}
use mathlib.Core.Bool.{Bool, true, false, cond}
use mathlib.Core.List.{List, [], ◌∷◌}
use native.Mathlib.Omega.{arith}
use lib.Dec.{eqb}
use lib.ListN.{length}
use borrow.Author.Tests.{ne_eqb}
use Rattle.words.specs.declared.Sizes.{Sizes}
use Rattle.lists.specs.Count.{Same, same, apart, same?, hit, cnt, cnt_cons, cnt_nil, cnt_self}
use Rattle.lists.specs.Beginning.{without}
use Rattle.lists.proofs.Without.{cnt_without}
use Rattle.lists.proofs.Short.{length_without}
use Rattle.state.specs.View.{memory, state_of}
use Rattle.state.specs.Step.{State}
use Rattle.state.specs.Queues.{own}
use Rattle.invariant.specs.Sound.{own_in}
use Rattle.invariant.proofs.Own.{own_le}
use Rattle.demand.specs.History.{Event, enqueued, dequeued, stepped, ran, asked, handed_by}
use Rattle.demand.proofs.World.{World}
use Rattle.demand.proofs.Keeps.{Keeps}
use Rattle.demand.proofs.Fresh.{Freshly, fresh_own}
use Rattle.costs.specs.Costs.{Few}
use Rattle.costs.proofs.Bounds.{few_nodes}
use Rattle.limits.specs.Course.{begun_by, effect}
use Rattle.limits.proofs.All.{AllFew}

pub few_table : (s : Sizes) (S : State) (fronts : ℕ → List ℕ) → World s S fronts → AllFew s s.nodes S
few_table s S fronts w q a b = few_nodes s q S (fronts q) (w.sound q a b)

pub few_more : (s : Sizes) (v w : ℕ) (S : State) → v ≤ w → AllFew s v S → AllFew s w S
few_more s v w S h few q a b xs k = omega (arith, few q a b xs k)

-- the nodes of U are those of T, and n
few_one : (s : Sizes) (q v n : ℕ) (T U : State) → ((y : ℕ) → own_in s q U y ≤ own_in s q T y + cnt y (n ∷ [])) → Few s q v T
    → Few s q (v + 1) U
few_one s q v n T U own few xs h =
    omega (
      arith,
      few (without n xs) (λ y. by y (eqb y n) (same? y n) (cnt_without y n xs)),
      length_without n xs,
      h n,
      own_le s.queues U.mem.uses q n,
    )
  where
    by : (y : ℕ) (t : Bool) → Same y n t → cnt y (without n xs) ≡ cond t 0 (cnt y xs) → cnt y (without n xs) ≤ own_in s q T y
    by y true (same e) z = omega arith
    by y false (apart e) z =
        let k : cnt y (n ∷ []) ≡ 0 = rw (cnt_cons, ne_eqb y n e) (omega (arith, cnt_nil y)) in omega (arith, h y, own y)

-- an accepted call
module _ (s : Sizes) (t u : List ℕ) (fronts : ℕ → List ℕ) (v : ℕ) where
  pub few_still : (returned : ℕ → List ℕ) → Keeps s t fronts returned (λ q. []) u → AllFew s v (state_of s t) → AllFew s v (state_of s u)
  few_still returned k few q a b xs h = few q a b xs (λ y. omega (arith, h y, k.balance q a y, cnt_nil y))

  pub few_kept : (e : Event) (returned : ℕ → List ℕ) → Keeps s t fronts returned (λ q. handed_by q e) u → AllFew s v (state_of s t)
      → AllFew s (v + begun_by (effect e)) (state_of s u)
  few_kept (enqueued l r n) returned k few q a b =
      few_one s q v n.0 (state_of s t) (state_of s u) (λ y. by y (eqb r.0 q) (k.balance q a y)) (few q a b)
    where
      by : (y : ℕ) (x : Bool)
          → own s.queues (memory s u).uses q y + cnt y (returned q)
          ≡ own s.queues (memory s t).uses q y + cnt y (cond x (n.0 ∷ []) [])
          → own_in s q (state_of s u) y ≤ own_in s q (state_of s t) y + cnt y (n.0 ∷ [])
      by y true e = omega arith
      by y false e = omega (arith, cnt_nil y)
  few_kept (dequeued l r) returned k few q a b = few_more s v _ (state_of s u) (omega arith) (few_still returned k few) q a b
  few_kept (stepped x) returned k few q a b = few_more s v _ (state_of s u) (omega arith) (few_still returned k few) q a b
  few_kept (ran budget x) returned k few q a b = few_more s v _ (state_of s u) (omega arith) (few_still returned k few) q a b
  few_kept asked returned k few q a b = few_more s v _ (state_of s u) (omega arith) (few_still returned k few) q a b

-- a fresh queue has its sentinel alone
pub few_fresh : (s : Sizes) (t : List ℕ) → Freshly s t → AllFew s 1 (state_of s t)
few_fresh s t f q a b xs h = by (length_without q xs) (without q xs) refl
  where
    none : (y : ℕ) → cnt y (without q xs) ≡ 0
    none y = at (eqb y q) (same? y q) (cnt_without y q xs) (fresh_own s t f q a b y)
      where
        at : (c : Bool) → Same y q c → cnt y (without q xs) ≡ cond c 0 (cnt y xs) → own_in s q (state_of s t) y ≡ hit c
            → cnt y (without q xs) ≡ 0
        at true (same e) z o = z
        at false (apart e) z o = omega (arith, h y)

    by : length xs ≡ length (without q xs) + cnt q xs → (ys : List ℕ) → without q xs ≡ ys → length xs ≤ 1
    by e [] k =
        let z : length (without q xs) ≡ 0 = ap length k in omega (arith, h q, own_le s.queues (memory s t).uses q q)
    by e (y ∷ ys) k = absurd (omega (arith, none y, ap (cnt y) k, cnt_self y ys))

-- ---- now and later

-- no queue has more than v nodes, now or after r begins more: v is all nodes of the table, or there is one for each begin
pub data Bounded (s : Sizes) (v r : ℕ) (t : List ℕ) : Type 0 where
  all_nodes : v ≡ s.nodes → Bounded s v r t
  for_begins : (b : ℕ) → AllFew s b (state_of s t) → b + r ≤ v → Bounded s v r t

pub few_now : (s : Sizes) (v r : ℕ) (t : List ℕ) (fronts : ℕ → List ℕ) → World s (state_of s t) fronts → Bounded s v r t
    → AllFew s v (state_of s t)
few_now s v r t fronts w (all_nodes e) = rw e (few_table s (state_of s t) fronts w)
few_now s v r t fronts w (for_begins b few h) = few_more s b v (state_of s t) (omega arith) few

pub bounded_then : (s : Sizes) (v r : ℕ) (t u : List ℕ) (fronts : ℕ → List ℕ) (e : Event) (returned : ℕ → List ℕ)
    → Keeps s t fronts returned (λ q. handed_by q e) u → Bounded s v (begun_by (effect e) + r) t → Bounded s v r u
bounded_then s v r t u fronts e returned k (all_nodes z) = all_nodes z
bounded_then s v r t u fronts e returned k (for_begins b few h) =
    for_begins (b + begun_by (effect e)) (few_kept s t u fronts b e returned k few) (omega arith)
