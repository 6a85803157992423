-- Facts about the conditions that the proofs of the calls cite.
use Rattle.std.specs.Prelude.{ℕ, zero, suc, ◌+◌, ◌-◌, ◌≤◌, ◌<◌, ◌≡◌, refl, List, true, false, ◌||◌}
use Rattle.std.proofs.Common.{arith, leb-false}
use Rattle.std.proofs.lemmas.Bool.{not-false}
use Rattle.words.specs.declared.Level.{Level}
use Rattle.words.specs.declared.Queue.{Queue}
use Rattle.words.specs.declared.Node.{Node}
use Rattle.words.specs.declared.Sizes.{Sizes}
use Rattle.words.specs.declared.Word.TheVariants.{Head, Use}
use Rattle.words.specs.Layout.{level, within, has, frame_of}
use Rattle.words.specs.Laws.{within_low, within_high, within_is}
use Rattle.conditions.specs.declared.Sought.{Sought}
use Rattle.conditions.specs.Conditions.{sought, some, no_level, no_queue, no_node}

-- one level more of a search from i up to an end
pub some_more : (s : Sizes) (t : List ℕ) (w : Sought) (i end : ℕ) → i < end
    → some s t w i (end - i) ≡ (sought w (frame_of s t (level i)) || some s t w (i + 1) (end - (i + 1)))
unfolding some
some_more s t w i end h = by (end - i) (omega arith)
  where
    by : (n : ℕ) → n ≡ suc (end - (i + 1)) → some s t w i n ≡ (sought w (frame_of s t (level i)) || some s t w (i + 1) (end - (i + 1)))
    by n e = rw e

pub some_none : (s : Sizes) (t : List ℕ) (w : Sought) (i end : ℕ) → end ≤ i → some s t w i (end - i) ≡ false
unfolding some
some_none s t w i end h = let e : end - i ≡ 0 = omega arith in rw e

-- what a condition that does not hold gives
pub has_level : (s : Sizes) (l : Level) → no_level s l ≡ false → l.0 < s.levels
unfolding no_level
has_level s l h = leb-false s.levels l.0 h

pub has_queue : (s : Sizes) (q : Queue) → no_queue s q ≡ false → has s (Head q) ≡ true
unfolding no_queue has
has_queue s q h = not-false (within 1 s.queues q.0) h

pub has_node : (s : Sizes) (n : Node) → no_node s n ≡ false → has s (Use n) ≡ true
unfolding no_node has
has_node s n h =
    let k = not-false (within (s.queues + 1) s.nodes n.0) h in
    let low = within_low (s.queues + 1) s.nodes n.0 k in
    within_is 1 s.nodes n.0 (omega arith) (within_high (s.queues + 1) s.nodes n.0 k)

-- a search among frames that are alike
pub some_alike : (s r : Sizes) (t u : List ℕ) (w : Sought) (i n : ℕ)
    → ((k : ℕ) → i ≤ k → k < i + n → sought w (frame_of r u (level k)) ≡ sought w (frame_of s t (level k)))
    → some r u w i n ≡ some s t w i n
unfolding some
some_alike s r t u w i zero h = refl
some_alike s r t u w i (suc n) h =
    let here = h i (omega arith) (omega arith) in
    let above = some_alike s r t u w (i + 1) n (λ k a b. h k (omega arith) (omega arith)) in
    rw (here, above)

pub some_same : (s : Sizes) (t u : List ℕ) (w : Sought) → ((k : Level) → sought w (frame_of s u k) ≡ sought w (frame_of s t k)) → (i n : ℕ)
    → some s u w i n ≡ some s t w i n
some_same s t u w h i n = some_alike s s t u w i n (λ k a b. h (level k))
