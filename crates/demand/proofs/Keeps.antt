-- What an accepted call, and any number of them, keep of all queues: with what they returned from each queue, and what they handed to it.
use Rattle.std.specs.Prelude.{Some}
use Prim.Native.Nat.{ℕ, ◌+◌, ◌≤◌}
use mathlib.Core.Path.{◌≡◌, refl}
use mathlib.Core.List.{List, [], ◌++◌, append_assoc}
use native.Mathlib.Omega.{arith}
use Rattle.words.specs.declared.Sizes.{Sizes}
use Rattle.words.specs.Layout.{measured}
use Rattle.lists.specs.Count.{cnt, counts}
use Rattle.lists.specs.Beginning.{Beginning, begins_same, begins_trans, begins_after}
use Rattle.state.specs.View.{memory, state_of}
use Rattle.state.specs.Queues.{own}
use Rattle.demand.proofs.World.{World}

pub record Keeps (s : Sizes) (t : List ℕ) (fronts : ℕ → List ℕ) (returned handed : ℕ → List ℕ) (u : List ℕ) : Type 0 where
  pub sized : measured u ≡ Some s
  pub fronts' : ℕ → List ℕ
  pub world : World s (state_of s u) fronts'
  -- what was frozen before is the beginning of what was returned since and is frozen now
  pub begins : (q : ℕ) → Beginning (fronts q) (returned q ++ fronts' q)
  -- a node is a queue's from when it is handed to it until it is returned
  pub balance : (q : ℕ) → 1 ≤ q → (n : ℕ)
      → own s.queues (memory s u).uses q n + cnt n (returned q) ≡ own s.queues (memory s t).uses q n + cnt n (handed q)

pub keeps_same : (s : Sizes) (t : List ℕ) (fronts : ℕ → List ℕ) → measured t ≡ Some s → World s (state_of s t) fronts
    → Keeps s t fronts (λ q. []) (λ q. []) t
keeps_same s t fronts m w =
    record { sized = m; fronts' = fronts; world = w; begins = λ q. begins_same (fronts q); balance = λ q h n. refl }

pub keeps_then : (s : Sizes) (t u v : List ℕ) (fronts : ℕ → List ℕ) (a b c d : ℕ → List ℕ) (k : Keeps s t fronts a b u)
    → Keeps s u k.fronts' c d v → Keeps s t fronts (λ q. a q ++ c q) (λ q. b q ++ d q) v
keeps_then s t u v fronts a b c d k m =
    record {
      sized = m.sized;
      fronts' = m.fronts';
      world = m.world;
      begins =
          λ q. rw append_assoc
          (begins_trans (fronts q) (a q ++ k.fronts' q) (a q ++ (c q ++ m.fronts' q)) (k.begins q)
          (begins_after (a q) (k.fronts' q) (c q ++ m.fronts' q) (m.begins q)));
      balance = λ q h n. (let e = k.balance q h n in let f = m.balance q h n in simp counts (omega arith));
    }
