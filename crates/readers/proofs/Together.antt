-- The dequeues on the table beside those on the copy: where the copy's say empty after n nodes, the table's do, in no more steps.
use Prim.Native.Nat.{ℕ, zero, suc, ◌+◌, ◌≤◌, ◌<◌}
use mathlib.Core.Path.{◌≡◌, refl, ap, ◌∙◌}
use mathlib.Core.Bool.{Bool}
use mathlib.Core.List.{List, ◌∷◌}
use native.Mathlib.Omega.{arith}
use borrow.Author.Tests.{eq-eqb, ne_eqb}
use Rattle.words.specs.declared.Sizes.{Sizes}
use Rattle.words.specs.declared.Frame.{Frame}
use Rattle.words.specs.Layout.{level, queue, node}
use Rattle.answers.specs.Said.{Said, says}
use Rattle.answers.specs.Most.{operation_most}
use Rattle.table.specs.declared.After.{After}
use Rattle.table.specs.declared.After.TheVariants.{Go, Done}
use Rattle.table.specs.Points.{D1}
use Rattle.table.specs.Frames.{counted}
use Rattle.begins.specs.Begin.{begun}
use Rattle.state.specs.Mem.{put_same}
use Rattle.state.specs.Step.{State, frame_after, stepped}
use Rattle.invariant.specs.Ghost.{Stack}
use Rattle.state.specs.Queues.{On}
use Rattle.invariant.specs.Sound.{view}
use Rattle.invariant.proofs.Step.{TopOf, top_is, on_top}
use Rattle.demand.proofs.Bridge.{says_of}
use Rattle.demand.proofs.World.{dequeue_begun}
use Rattle.limits.specs.Limits.{Capped}
use Rattle.limits.proofs.Calls.{most_below}
use Rattle.words.specs.Copy.{taller}
use Rattle.waiting.specs.Waiting.{dequeue_at, drain_on, drained, drained_at}
use Rattle.drains.proofs.Drain.{Draining, Rested, Goes, onward, over, back, begins_draining, stepped_to, goes_to}
use Rattle.drains.proofs.Lift.{other}
use Rattle.readers.specs.Drawn.{drawn_on, drawn, drawn_at}
use Rattle.readers.proofs.Alike.{Alike, Standing, beside, Both, go, end}
use Rattle.readers.proofs.Detour.{Follows, together, waits, step_beside}

-- the dequeue that goes on is one still
still_draining : (s : Sizes) (l q k : ℕ) (W : State) (u : List ℕ) (f h : Frame) (a : After) → a ≡ Go h
    → Goes s l q k W u (says_of (level l) f a) → Draining s l q u k (stepped s.levels l W)
still_draining s l q k W u f h (Go g) e (onward d one quiet) = d
still_draining s l q k W u f h (Done n) e x = let z : ◌≡◌ {A = ℕ} 0 1 = cc in absurd (omega arith)

-- the table's dequeues run at level l, the copy's at its new level
module _ (s : Sizes) (l q : ℕ) (low : l < s.levels) (cap : Capped s) where
  abbrev top : ℕ
  top = s.levels

  -- no steps word comes to the cap
  short_here : operation_most l s.nodes ≤ 65535
  short_here = omega (arith, most_below s s.nodes l low)

  short_there : operation_most top s.nodes ≤ 65535
  short_there = omega arith

  -- a dequeue runs on the table c, one on the copy e, and they stand alike; T is the table's state, W the copy's
  record Beside (c e : List ℕ) : Type 0 where
    k : ℕ
    j : ℕ
    T : State
    W : State
    here : Draining s l q c k T
    there : Draining (taller s) top q e j W
    alike : Alike top l q T.mem W.mem
    standing : Standing top l q (T.frames l) (W.frames top)

  -- what the dequeues answer, with so many steps left and n nodes returned
  abbrev on_table : ℕ → ℕ → List ℕ → Said ℕ
  on_table left n c = drained s (queue q) (level l) left n c

  abbrev on_copy : ℕ → ℕ → List ℕ → Said ℕ
  on_copy left n e = drained (taller s) (queue q) (level top) left n e

  -- and the nodes that they return
  abbrev from_table : ℕ → List ℕ → List ℕ
  from_table left c = drawn s (queue q) (level l) left c

  abbrev from_copy : ℕ → List ℕ → List ℕ
  from_copy left e = drawn (taller s) (queue q) (level top) left e

  -- the table has so many steps left as the copy, or more
  abbrev Reads : ℕ → Type 0
  Reads left =
      (more n m : ℕ) (c e : List ℕ) → Beside c e → left ≤ more → on_copy left n e ≡ says m
      → (on_table more n c ≡ says m) × (from_table more c ≡ from_copy left e)

  -- ---- both begin

  begun_beside : (k j : ℕ) (c e : List ℕ) (T W : State) → Rested s l q c k T → Rested (taller s) top q e j W
      → Alike top l q T.mem W.mem
      → Beside (dequeue_at s (queue q) (level l) c) (dequeue_at (taller s) (queue q) (level top) e)
  begun_beside k j c e T W d f r =
      let g = begun 2 D1 (queue q) (node 0) in
      let first : Standing top l q g g = beside (other (λ z. omega arith) refl) in
      record {
        k = k;
        j = j;
        T = dequeue_begun T l q;
        W = dequeue_begun W top q;
        here = begins_draining s l q c k T d;
        there = begins_draining (taller s) top q e j W f;
        alike = r;
        standing = rw (put_same T.frames l g, put_same W.frames top g) first;
      }

  -- ---- a step of the copy's dequeue

  module _ {c e : List ℕ} (b : Beside c e) where
    -- the states and the tables after a step of each
    abbrev T' : State
    T' = stepped top l b.T

    abbrev W' : State
    W' = stepped (suc top) top b.W

    abbrev u : List ℕ
    u = (stepped_to s l q c b.k b.T b.here).table

    abbrev w : List ℕ
    w = (stepped_to (taller s) top q e b.j b.W b.there).table

    follows : Follows top l q b.T.mem b.W.mem (b.T.frames l) (b.W.frames top)
    follows = by (on_top l d.seen.idle d.seen.sound.pile (d.seen.sound.listed l running))
      where
        d : Draining s l q c b.k b.T
        d = b.here

        running : On q (b.T.frames l)
        running = ((λ z. omega (arith, b.here.two)), b.here.on)

        by : {st : Stack} {t : Bool} → TopOf top q (view q b.T.mem b.here.seen.sound.settled) b.T.frames l st t
            → Follows top l q b.T.mem b.W.mem (b.T.frames l) (b.W.frames top)
        by (top_is works h p) =
            step_beside low (b.T.frames l) (b.W.frames top) b.alike b.standing b.there.on h

    -- so many steps are left after it
    module _ (left : ℕ) (on : Reads left) (more n m : ℕ) (le : left ≤ more) where
      -- both make a step, of the frames f and g, and x and y follow
      both_on : (f g : Frame) (x y : After) → Both top l q x y
          → Goes s l q b.k b.T u (says_of (level l) f x) → Goes (taller s) top q b.j b.W w (says_of (level top) g y)
          → T'.frames l ≡ frame_after x → W'.frames top ≡ frame_after y → Alike top l q T'.mem W'.mem
          → drain_on (taller s) (queue q) (level top) (on_copy left) n (says (says_of (level top) g y)) w ≡ says m
          → (drain_on s (queue q) (level l) (on_table more) n (says (says_of (level l) f x)) u ≡ says m)
          × (drawn_on s (queue q) (level l) (from_table more) (says (says_of (level l) f x)) u
          ≡ drawn_on (taller s) (queue q) (level top) (from_copy left) (says (says_of (level top) g y)) w)
      unfolding drain_on drawn_on
      both_on f g _ _ (go st) (onward d a z) (onward d' a' z') fx gy r h =
          on more n m u w (record {
            k = b.k;
            j = b.j;
            T = T';
            W = W';
            here = d;
            there = d';
            alike = r;
            standing = rw (fx, gy) st;
          }) le h
      both_on f g _ _ (end {n = i}) (over z y) (over z' y') fx gy r h =
          let none = eq-eqb i.0 0 z in rw none (rw none at h, refl)
      both_on f g _ _ end (over z y) (back j' z' a' d' y') fx gy r h = absurd (z' z)
      both_on f g _ _ end (back k' z a d y) (over z' y') fx gy r h = absurd (z z')
      both_on f g _ _ (end {n = i}) (back k' z a d y) (back j' z' a' d' y') fx gy r h =
          let some = ne_eqb i.0 0 z in
          let again = begun_beside k' j' u w T' W' d d' r in
          let rest =
          on more (n + 1) m (dequeue_at s (queue q) (level l) u) (dequeue_at (taller s) (queue q) (level top) w) again le (rw some at h) in
          rw some (rest.0, ap (λ (ns : List ℕ). i.0 ∷ ns) rest.1)

      -- the table's makes it too, or waits
      step_reads : Follows top l q b.T.mem b.W.mem (b.T.frames l) (b.W.frames top)
          → on_copy (suc left) n e ≡ says m → (on_table (suc more) n c ≡ says m) × (from_table (suc more) c ≡ from_copy (suc left) e)
      unfolding drained drain_on drawn drawn_on
      step_reads (together x r) h =
          let here = stepped_to s l q c b.k b.T b.here in
          let there = stepped_to (taller s) top q e b.j b.W b.there in
          rw (here.is, there.is)
          (both_on (counted (b.T.frames l)) (counted (b.W.frames top)) _ _ x
          (goes_to s l q c b.k b.T b.here short_here) (goes_to (taller s) top q e b.j b.W b.there short_there)
          (put_same b.T.frames l _) (put_same b.W.frames top _) r (rw there.is at h))
      step_reads (waits g i st r) h =
          let there = stepped_to (taller s) top q e b.j b.W b.there in
          let goes = goes_to (taller s) top q e b.j b.W b.there short_there in
          let new = put_same b.W.frames top _ ∙ ap frame_after i in
          rw (there.is, i)
          (on (suc more) n m c w (record {
            k = b.k;
            j = b.j;
            T = b.T;
            W = W';
            here = b.here;
            there = still_draining (taller s) top q b.j b.W w (counted (b.W.frames top)) g _ i goes;
            alike = r;
            standing = rw new st;
          }) (omega arith) (rw (there.is, i) at h))

  -- ---- all of them

  reads : (left : ℕ) → Reads left
  unfolding drained
  reads zero more n m c e b le h = let z : ◌≡◌ {A = ℕ} 0 1 = cc in absurd (omega arith)
  reads (suc left) zero n m c e b le h = absurd (omega arith)
  reads (suc left) (suc more) n m c e b le h = step_reads b left (reads left) more n m (omega arith) (follows b) h

  -- from a table and a copy in which nothing runs there
  pub reads_alike : (k j : ℕ) (c e : List ℕ) (T W : State) → Rested s l q c k T → Rested (taller s) top q e j W
      → Alike top l q T.mem W.mem → (steps m : ℕ)
      → drained_at (taller s) (queue q) (level top) steps e ≡ says m
      → (drained_at s (queue q) (level l) steps c ≡ says m)
      × (drawn_at s (queue q) (level l) steps c ≡ drawn_at (taller s) (queue q) (level top) steps e)
  reads_alike k j c e T W d f r steps m h = reads steps steps 0 m _ _ (begun_beside k j c e T W d f r) (omega arith) h
