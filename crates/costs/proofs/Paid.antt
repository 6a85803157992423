-- The cost facts of one queue are kept by each step and begin on it, and where nothing of it moves.
use Prim.Native.Nat.{ℕ, ◌+◌, ◌≤◌, ◌<◌}
use mathlib.Core.Path.{◌≡◌, refl, sym}
use mathlib.Core.Logic.{◌≢◌}
use mathlib.Core.Bool.{Bool, true, false, cond}
use mathlib.Core.List.{List}
use native.Mathlib.Omega.{arith}
use lib.Dec.{ltb}
use Rattle.words.specs.declared.Sizes.{Sizes}
use Rattle.words.specs.declared.Frame.{Frame}
use Rattle.words.specs.declared.Node.{Node}
use Rattle.words.specs.declared.Word.TheVariants.{Use}
use Rattle.words.specs.Layout.{node}
use Rattle.lists.specs.Count.{cnt}
use Rattle.state.specs.Mem.{put, upd}
use Rattle.state.specs.Step.{State, then, frame_after, row_of, stepped}
use Rattle.state.specs.Queues.{On, Apart, Alike, still, others}
use Rattle.table.specs.Points.{point_of, E1, D1}
use Rattle.table.specs.Laws.{point_is}
use Rattle.table.specs.Frames.{counted}
use Rattle.table.specs.Table.{Row}
use Rattle.table.specs.declared.After.{After}
use Rattle.table.specs.declared.After.TheVariants.{Done}
use Rattle.invariant.specs.Ghost.{Stack, push, lists, Listed}
use Rattle.invariant.specs.Facts.{regs, Works, Pile}
use Rattle.invariant.specs.Sound.{view, StandIn, Sound}
use Rattle.invariant.proofs.Below.{listed_lower}
use Rattle.invariant.proofs.Turn.{Turn}
use Rattle.invariant.proofs.Step.{turn, TopOf, top_is, on_top}
use Rattle.invariant.proofs.Own.{own_le}
use Rattle.invariant.proofs.Levels.{each}
use Rattle.invariant.proofs.Begin.{begins}
use Rattle.costs.specs.Costs.{first, SpentBy, Paid}
use Rattle.costs.specs.Bounds.{AtMost, Paying, StepKeeps}
use Rattle.costs.proofs.Pays.{Fine, goes_on, has_ended, pays}
use Rattle.costs.proofs.Rests.{found, closed, rests, links_stay, head_stays}

-- a counted frame has at most one step more
counts_one : (f : Frame) → (counted f).steps ≤ f.steps + 1
unfolding counted
counts_one f = by (ltb f.steps 65535)
  where
    by : (t : Bool) → cond t (f.steps + 1) f.steps ≤ f.steps + 1
    by true = omega arith
    by false = omega arith

-- ---- a level whose turn it is not

module _ (s : Sizes) (q v : ℕ) (U W : State) (S : List ℕ) {n : ℕ} {st : Stack} {b : Bool}
    (d : Pile s.levels q (view q U.mem S) U.frames n st b)
    (next= : (y : ℕ) → 0 < cnt y (lists st) → W.mem.next y ≡ U.mem.next y) where
  rest_of : (j : ℕ) → Listed j st → ((U.frames j).op ≡ 2 → W.mem.head q ≡ U.mem.head q)
      → SpentBy s.levels q v (v + 6) j U.mem.next (U.mem.head q) (U.frames j) (U.frames j).steps
      (point_of (U.frames j).point)
      → SpentBy s.levels q v (v + 6) j W.mem.next (W.mem.head q) (U.frames j) (U.frames j).steps
      (point_of (U.frames j).point)
  rest_of j h head= u =
      let r = found j d h in
      rw r.is
      (rests s.levels q v (v + 6) j (U.frames j).steps (view q U.mem S) (regs (U.frames j)) W.mem.next (W.mem.head q)
      (lists (push j r.item r.rest)) (closed r.pile)
      (λ y (m : 0 < cnt y (lists (push j r.item r.rest))). next= y (omega (arith, r.inside y))) head=
      r.point r.here (λ y. omega arith) (rw r.is at u))

-- ---- a step

pub paid_step : (s : Sizes) (q v : ℕ) (W : State) (front : List ℕ) → StepKeeps s q v W front
unfolding counted
paid_step s q v W front d few paid l low o idle = by d.stack d.done (on_top l idle d.pile (d.listed l o)) d.stand d.listed
  where
    S : List ℕ
    S = d.settled

    f : Frame
    f = W.frames l

    r : Row
    r = row_of s.levels l f

    W' : State
    W' = stepped s.levels l W

    by : (st : Stack) (b : Bool) → TopOf s.levels q (view q W.mem S) W.frames l st b → StandIn s q W S d.hot st
        → ((j : ℕ) → On q (W.frames j) → Listed j st) → Paying s q v l W
    by _ _ (top_is {i = i} {st = st} {b = b} {b' = b'} works h p) t listed = record {
      paid = each W.frames l
          (λ j g. On q g
          → SpentBy s.levels q v (v + 6) j W'.mem.next (W'.mem.head q) g g.steps (point_of g.point))
          (frame_after (then W.mem r (counted f))) (mine (then W.mem r (counted f)) fine) theirs;
      most = λ n e. ended n (then W.mem r (counted f)) fine e;
    }
      where
        below : (j : ℕ) → j < l → W.mem.lq j ≡ q → Listed j st
        below j m z = listed_lower st (omega arith) (listed j (d.registered j z))

        alone : f.op ≡ 2 → (j : ℕ) → j < l → Works q (W.frames j) → (W.frames j).op ≢ 2
        alone op j m w z = let e = d.one l j o ((λ (y : (W.frames j).op ≡ 0). omega (arith, w)), w.queued) op z in
            omega arith

        T : Turn
        T = turn s q l W st low d.low works below alone

        Left : After → Type 0
        Left a = Fine T v (v + 6) f.steps refl few (counts_one f) W'.mem a

        fine : Left (then W.mem r (counted f))
        fine = pays T v (v + 6) f.steps refl few (counts_one f) (point_of f.point) refl S d.hot i b b' h p t (paid l o)

        mine : (a : After) → Left a → On q (frame_after a)
            → SpentBy s.levels q v (v + 6) l W'.mem.next (W'.mem.head q) (frame_after a) (frame_after a).steps
            (point_of (frame_after a).point)
        mine _ (goes_on at u) z = rw at u
        mine _ (has_ended u) z = absurd (z.0 refl)

        ended : (n : Node) (a : After) → Left a → a ≡ Done n → AtMost l v f.op (counted f).steps
        ended n _ (goes_on at u) e = let z : ◌≡◌ {A = ℕ} 0 1 = cc in absurd (omega arith)
        ended n _ (has_ended u) e = record { enqueue = λ z. omega (arith, u.enqueue z); operation = omega (arith, u.dequeue) }

        theirs : (j : ℕ) → j ≢ l → On q (W.frames j)
            → SpentBy s.levels q v (v + 6) j W'.mem.next (W'.mem.head q) (W.frames j) (W.frames j).steps
            (point_of (W.frames j).point)
        theirs j ne on =
            rest_of s q v W W' S p (λ y m. links_stay T (point_of f.point) h p t y m) j (listed_lower st ne (listed j on))
            (λ z. head_stays T (point_of f.point) h (λ two. ne (sym (d.one l j o on two z))))
            (paid j on)

-- ---- where nothing of the queue moves

pub paid_apart : (s : Sizes) (q v : ℕ) (U W : State) (front : List ℕ) → Sound s q U front → Apart s q U W → Paid s q v U → Paid s q v W
paid_apart s q v U W front d a paid j on = by (a.level j)
  where
    next= : (y : ℕ) → 0 < cnt y (lists d.stack) → W.mem.next y ≡ U.mem.next y
    next= y h = a.next y (omega (arith, d.stand.all y, own_le s.queues U.mem.uses q y))

    by : Alike q U W j
        → SpentBy s.levels q v (v + 6) j W.mem.next (W.mem.head q) (W.frames j) (W.frames j).steps
        (point_of (W.frames j).point)
    by (still f n l) = let o : On q (U.frames j) = rw f at on in
        rw f (rest_of s q v U W d.settled d.pile next= j (d.listed j o) (λ z. a.head) (paid j o))
    by (others x y u w) = absurd (y on)

-- ---- begins

pub paid_enqueue : (s : Sizes) (q v : ℕ) (W : State) (l n : ℕ) → Paid s q v W
    → Paid s q v (record { mem = upd W.mem (Use (node n)) q; frames = put W.frames l (begins 1 1 q n) })
paid_enqueue s q v W l n paid = each W.frames l
    (λ j g. On q g → SpentBy s.levels q v (v + 6) j W.mem.next (W.mem.head q) g g.steps (point_of g.point))
    (begins 1 1 q n) (λ o. rw (point_is E1 1 refl) ((λ e. absurd (omega arith)), omega arith)) (λ j ne o. paid j o)

pub paid_dequeue : (s : Sizes) (q v : ℕ) (W : State) (l : ℕ) → Paid s q v W
    → Paid s q v (record { mem = W.mem; frames = put W.frames l (begins 2 31 q 0) })
paid_dequeue s q v W l paid = each W.frames l
    (λ j g. On q g → SpentBy s.levels q v (v + 6) j W.mem.next (W.mem.head q) g g.steps (point_of g.point))
    (begins 2 31 q 0) (λ o. rw (point_is D1 31 refl) (first (omega arith))) (λ j ne o. paid j o)
