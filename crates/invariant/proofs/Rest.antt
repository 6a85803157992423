-- A queue at rest that has the invariant is one chain from head to tail, and every such chain has it.
use Prim.Native.Nat.{ℕ, ◌≤◌, ◌<◌}
use mathlib.Core.Path.{◌≡◌, refl, ap, ◌∙◌}
use mathlib.Core.Logic.{◌≢◌}
use mathlib.Core.Bool.{Bool, false}
use mathlib.Core.List.{List, [], ◌∷◌, ◌++◌}
use native.Mathlib.Omega.{arith}
use Rattle.words.specs.declared.Sizes.{Sizes}
use Rattle.lists.specs.Count.{cnt, counts}
use Rattle.lists.specs.Beginning.{without}
use Rattle.state.specs.Step.{State}
use Rattle.state.specs.Queues.{On}
use Rattle.chains.specs.Seg.{Seg, stop, link}
use Rattle.chains.proofs.Links.{seg_split, seg_join, seg_head, seg_rest, seg_nil}
use Rattle.invariant.specs.Ghost.{Stack, floor}
use Rattle.invariant.specs.Facts.{bottom, upon}
use Rattle.invariant.specs.Sound.{StandIn, front_of, PileIn, Sound, Chained}
use Rattle.invariant.proofs.Own.{own_in}

pub quiet : (s : Sizes) (q : ℕ) (W : State) (front : List ℕ) → Sound s q W front → ((j : ℕ) → ¬ On q (W.frames j))
    → Chained s q W front
quiet s q W front d h = by d.stack d.done d.pile d.stand d.front_is
  where
    S : List ℕ
    S = d.settled

    by : (st : Stack) (b : Bool) → PileIn s q W S s.levels st b → StandIn s q W S d.hot st
        → front ≡ front_of q W.mem S st → Chained s q W front
    by _ _ bottom t e =
        let w : d.hot ≡ W.mem.tail q ∷ [] = t.hot.begins ∙ ap (λ y. W.mem.tail q ∷ y) (t.hot.alone refl refl) in
        record {
          nodes = S ++ W.mem.tail q ∷ [];
          linked = seg_join t.settled (rw w at t.hot.linked);
          ends = (S, refl);
          once = λ y. simp counts (omega (arith, simp (w, counts) at (t.all y)));
          front_is = e;
        }
    by _ _ (upon {l = l} a o i k p) t e = absurd (h l ((λ (z : (W.frames l).op ≡ 0). omega (arith, o)), o.queued))

-- the settled nodes and tail, in one chain
pub sound_start : (s : Sizes) (q : ℕ) (W : State) (front : List ℕ) → 1 ≤ q → q ≤ s.queues → s.queues ≤ s.nodes
    → ((j : ℕ) → ¬ On q (W.frames j))
    → ((j : ℕ) → W.mem.lq j ≢ q) → ((n : ℕ) → s.nodes < n → W.mem.uses n ≡ 0) → Chained s q W front → Sound s q W front
sound_start s q W front a b c h r u k = record {
  settled = k.ends.0;
  hot = W.mem.tail q ∷ [];
  stack = floor;
  done = false;
  pile = bottom;
  stand = record {
    hot = record { more = []; begins = refl; linked = link refl (stop (seg_nil (seg_rest two.2))); alone = λ x y. refl };
    settled = rw (seg_head two.2) at two.1;
    all = λ y. simp counts (omega (arith, k.once y, simp counts at (ap (cnt y) k.ends.1)));
  };
  listed = λ j o. absurd (h j o);
  registered = λ j e. absurd (r j e);
  one = λ i j o. absurd (h i o);
  nodes = λ y e. own_in s.queues s.nodes W.mem.uses q y a b c u e;
  low = a;
  high = b;
  front_is = k.front_is ∙ ap (without q) k.ends.1;
}
  where
    two : (m : ℕ) × Seg W.mem.next (W.mem.head q) k.ends.0 m × Seg W.mem.next m (W.mem.tail q ∷ []) 0
    two = seg_split k.ends.0 (rw k.ends.1 at k.linked)
