-- Dequeues begun one after another at one level, in a table of any sizes in which no higher level runs: each ends within its bound, and
-- each that returns a node takes one of the user's from the queue. So one says empty, after so many steps at most.
use Prim.Native.Nat.{ℕ, zero, suc, ◌+◌, ◌*◌, ◌-◌, ◌≤◌, ◌<◌}
use mathlib.Core.Path.{◌≡◌, refl, sym, ap, ◌∙◌, subst}
use mathlib.Core.Logic.{◌≢◌}
use mathlib.Core.Bool.{Bool, true, false, cond}
use mathlib.Core.List.{List, [], ◌∷◌, ◌++◌}
use native.Mathlib.Omega.{arith}
use lib.Dec.{eqb}
use lib.ListN.{length, length-append}
use borrow.Author.Tests.{eq-eqb, ne_eqb}
use Rattle.words.specs.declared.Sizes.{Sizes}
use Rattle.words.specs.declared.Frame.{Frame}
use Rattle.words.specs.declared.Node.{Node}
use Rattle.words.specs.declared.Queue.{Queue}
use Rattle.words.specs.Layout.{level, queue, node, words, put_frame}
use Rattle.words.specs.Laws.{put_length}
use Rattle.answers.specs.declared.End.{End}
use Rattle.answers.specs.Said.{Said, says, Step, going_on, ended}
use Rattle.answers.specs.Most.{operation_most}
use Rattle.table.specs.declared.After.{After}
use Rattle.table.specs.declared.After.TheVariants.{Go, Done}
use Rattle.table.specs.Points.{D1, D2, point_of}
use Rattle.table.specs.Frames.{counted}
use Rattle.table.specs.Table.{Row}
use Rattle.begins.specs.Begin.{begun}
use Rattle.steps.specs.Step.{end_of, step_sized}
use Rattle.lists.specs.Count.{Same, same, apart, same?, cnt, cnt_cons, cnt_nil, cnt_self, counts}
use Rattle.lists.specs.Beginning.{without}
use Rattle.lists.proofs.Without.{cnt_without}
use Rattle.lists.proofs.Short.{length_without}
use Rattle.state.specs.Mem.{Mem, put, put_same, put_other}
use Rattle.state.specs.Step.{State, mem_after, then, frame_after, row_of, stepped}
use Rattle.state.specs.View.{memory, frames}
use Rattle.state.specs.Queues.{On, own, Within, load, store, free, out_of}
use Rattle.state.proofs.Seen.{memory_put, frames_put}
use Rattle.invariant.specs.Sound.{own_in, Sound, Stepping}
use Rattle.invariant.proofs.Own.{own_le}
use Rattle.invariant.proofs.Step.{sound_step}
use Rattle.invariant.proofs.Begin.{sound_dequeue}
use Rattle.demand.specs.History.{returned_by_step}
use Rattle.demand.proofs.Among.{pile_d2}
use Rattle.demand.proofs.Bridge.{says_of}
use Rattle.demand.proofs.Rows.{row_plain, goes_on, ends_empty}
use Rattle.demand.proofs.Steps.{its_node, returns_out, out_balance, step_bridged}
use Rattle.demand.proofs.World.{dequeue_begun}
use Rattle.costs.specs.Costs.{Paid}
use Rattle.costs.proofs.Paid.{paid_step, paid_dequeue}
use Rattle.costs.proofs.Bounds.{few_nodes, runs_below}
use Rattle.limits.proofs.All.{counts_one}
use Rattle.waiting.specs.Waiting.{dequeue_at, drain_on, drained}
use Rattle.drains.proofs.Begins.{dequeue_begins}
use Rattle.drains.proofs.Empty.{cnt_less, empty_none}

-- ---- a table on the way

-- queue q has no more than k nodes of the user's
abbrev pub FewUsers : Sizes → ℕ → ℕ → State → Type 0
FewUsers s q k W =
    (xs : List ℕ) → ((y : ℕ) → cnt y xs ≤ own_in s q W y) → ((y : ℕ) → 0 < cnt y xs → s.queues < y) → length xs ≤ k

-- A table c beside a state W with the same memory, of which the invariant and the cost facts of queue q hold. In both no level above l
-- runs, and no other level than l dequeues from q; the frames of the lower levels may differ, since no step of level l reads them.
pub record Seen (s : Sizes) (l q : ℕ) (c : List ℕ) (k : ℕ) (W : State) : Type 0 where
  pub low : l < s.levels
  pub room : words s ≤ length c
  pub mem : W.mem ≡ memory s c
  pub front : List ℕ
  pub sound : Sound s q W front
  pub paid : Paid s q s.nodes W
  pub few : FewUsers s q k W
  pub only : (j : ℕ) → j ≢ l → (W.frames j).op ≡ 2 → (W.frames j).queue.0 ≢ q
  pub idle : (j : ℕ) → l < j → (W.frames j).op ≡ 0
  pub alone : (j : ℕ) → j < l → (frames s c j).op ≡ 2 → (frames s c j).queue.0 ≢ q
  pub above : (j : ℕ) → l < j → (frames s c j).op ≡ 0

-- a dequeue on q runs at level l
pub record Draining (s : Sizes) (l q : ℕ) (c : List ℕ) (k : ℕ) (W : State) : Type 0 where
  pub seen : Seen s l q c k W
  pub frame : W.frames l ≡ frames s c l
  pub two : (W.frames l).op ≡ 2
  pub on : (W.frames l).queue.0 ≡ q

-- nothing runs at level l
pub record Rested (s : Sizes) (l q : ℕ) (c : List ℕ) (k : ℕ) (W : State) : Type 0 where
  pub seen : Seen s l q c k W
  pub still : (frames s c l).op ≡ 0
  pub off : (W.frames l).op ≡ 0

-- no other level works on the queue, which has k nodes of the user's or more
pub record Quietly (s : Sizes) (l q k : ℕ) (W : State) : Type 0 where
  pub others : (j : ℕ) → j ≢ l → ¬ On q (W.frames j)
  pub users : List ℕ
  pub owned : (y : ℕ) → cnt y users ≤ own_in s q W y
  pub real : (y : ℕ) → 0 < cnt y users → s.queues < y
  pub long : k ≤ length users

-- a level that runs nothing, and those above it
idle_from : (F : ℕ → Frame) (l : ℕ) → (F l).op ≡ 0 → ((j : ℕ) → l < j → (F j).op ≡ 0) → (j : ℕ) → l ≤ j → (F j).op ≡ 0
idle_from F l here above j h = by (eqb j l) (same? j l)
  where
    by : (b : Bool) → Same j l b → (F j).op ≡ 0
    by true (same e) = rw e here
    by false (apart e) = above j (omega arith)

-- the frame g was put at level l, in the table and in the state
seen_put : (s : Sizes) (l q : ℕ) (c u : List ℕ) (k k' : ℕ) (W : State) (M : Mem) (g : Frame) (front : List ℕ) → Seen s l q c k W
    → words s ≤ length u → M ≡ memory s u → frames s u ≡ put (frames s c) l g
    → Sound s q (record { mem = M; frames = put W.frames l g }) front
    → Paid s q s.nodes (record { mem = M; frames = put W.frames l g })
    → FewUsers s q k' (record { mem = M; frames = put W.frames l g })
    → Seen s l q u k' (record { mem = M; frames = put W.frames l g })
seen_put s l q c u k k' W M g front d room mem put_in sound paid few =
    record {
      low = d.low;
      room = room;
      mem = mem;
      front = front;
      sound = sound;
      paid = paid;
      few = few;
      only = λ j ne. rw (put_other W.frames l g j ne) (d.only j ne);
      idle = λ j h. ap (λ (f : Frame). f.op) (put_other W.frames l g j (omega arith)) ∙ d.idle j h;
      alone = λ j h. rw (put_in, put_other (frames s c) l g j (omega arith)) (d.alone j h);
      above = λ j h. ap (λ (F : ℕ → Frame). (F j).op) put_in
          ∙ ap (λ (f : Frame). f.op) (put_other (frames s c) l g j (omega arith)) ∙ d.above j h;
    }

-- ---- a dequeue begins

-- the frame of a dequeue that begins
abbrev first : ℕ → Frame
first q = begun 2 D1 (queue q) (node 0)

module _ (s : Sizes) (l q : ℕ) (c : List ℕ) (k : ℕ) (W : State) (r : Rested s l q c k W) where
  abbrev d : Seen s l q c k W
  d = r.seen

  abbrev new : List ℕ
  new = dequeue_at s (queue q) (level l) c

  -- it is accepted
  new_is : new ≡ put_frame s c (level l) (first q)
  new_is =
      ap (λ (o : Said Unit × List ℕ). o.1)
      (dequeue_begins s c l (queue q) d.low d.sound.low d.sound.high
      (idle_from (frames s c) l r.still d.above) d.alone)

  new_frames : frames s new ≡ put (frames s c) l (first q)
  new_frames = ap (frames s) new_is ∙ frames_put s c d.room (level l) d.low (first q)

  new_memory : W.mem ≡ memory s new
  new_memory = d.mem ∙ sym (ap (memory s) new_is ∙ memory_put s c d.room (level l) (first q))

  none_dequeues : (j : ℕ) → (W.frames j).op ≡ 2 → (W.frames j).queue.0 ≢ q
  none_dequeues j two = by (eqb j l) (same? j l)
    where
      by : (b : Bool) → Same j l b → (W.frames j).queue.0 ≢ q
      by true (same e) = absurd (omega (arith, sym two ∙ ap (λ (i : ℕ). (W.frames i).op) e ∙ r.off))
      by false (apart e) = d.only j e two

  pub begins_draining : Draining s l q (dequeue_at s (queue q) (level l) c) k (dequeue_begun W l q)
  begins_draining =
      let room : words s ≤ length new = omega (arith, d.room, ap length new_is, put_length s c (level l) (first q)) in
      let sound = sound_dequeue s q W d.front d.sound l d.low (idle_from W.frames l r.off d.idle) none_dequeues in
      let paid = paid_dequeue s q s.nodes W l d.paid in
      let at_l = put_same W.frames l (first q) in
      record {
        seen = seen_put s l q c new k k W W.mem (first q) d.front d room new_memory new_frames sound paid d.few;
        frame = at_l ∙ sym (ap (λ (F : ℕ → Frame). F l) new_frames ∙ put_same (frames s c) l (first q));
        two = ap (λ (f : Frame). f.op) at_l;
        on = ap (λ (f : Frame). f.queue.0) at_l;
      }

module _ (s : Sizes) (l q : ℕ) (c : List ℕ) (k : ℕ) (W : State) where
  pub begins_quietly : Quietly s l q k W → Quietly s l q k (dequeue_begun W l q)
  begins_quietly z =
      record {
        others = λ j ne. rw (put_other W.frames l (first q) j ne) (z.others j ne);
        users = z.users;
        owned = z.owned;
        real = z.real;
        long = z.long;
      }

-- ---- a step of it

-- a step of the frame f at level l, in a table t of memory M: what it says, and the table that it leaves
pub record StepsTo (s : Sizes) (l : ℕ) (t : List ℕ) (M : Mem) (f : Frame) : Type 0 where
  pub table : List ℕ
  pub is : step_sized s t ≡ (says (says_of (level l) (counted f) (then M (row_of s.levels l f) (counted f))), table)
  pub room : words s ≤ length table
  pub mem : memory s table ≡ mem_after M (row_of s.levels l f)
  pub frames_are : frames s table ≡ put (frames s t) l (frame_after (then M (row_of s.levels l f) (counted f)))

-- What it said, and what is so of the table u that it left: it goes on, one step further; it says empty, which on a quiet queue means that
-- none of the user's nodes is in it; or it returns one of them.
pub data Goes (s : Sizes) (l q k : ℕ) (W : State) (u : List ℕ) : Step → Type 0 where
  onward : Draining s l q u k (stepped s.levels l W) → ((stepped s.levels l W).frames l).steps ≡ (W.frames l).steps + 1
      → (Quietly s l q k W → Quietly s l q k (stepped s.levels l W)) → Goes s l q k W u going_on
  over : {e : End} → e.node.0 ≡ 0 → (Quietly s l q k W → k ≡ 0) → Goes s l q k W u (ended e)
  back : {e : End} (k' : ℕ) → e.node.0 ≢ 0 → k ≡ suc k' → Rested s l q u k' (stepped s.levels l W)
      → (Quietly s l q k W → Quietly s l q k' (stepped s.levels l W)) → Goes s l q k W u (ended e)

-- one number in a list
cnt_other : (y x : ℕ) → y ≢ x → cnt y (x ∷ []) ≡ 0
cnt_other y x ne = rw (cnt_cons, ne_eqb y x ne) (omega (arith, cnt_nil y))

one_cnt : (y x : ℕ) → 0 < cnt y (x ∷ []) → y ≡ x
one_cnt y x h = by (eqb y x) (same? y x)
  where
    by : (b : Bool) → Same y x b → y ≡ x
    by true (same e) = e
    by false (apart e) = absurd (omega (arith, cnt_other y x e))

-- a row frees a node of the user's
out_user : (s : Sizes) (q : ℕ) (S : State) (x : Row) → Within s q S x → (y : ℕ) → 0 < cnt y (out_of x) → s.queues < y
out_user s q S x (load b) y h = absurd (omega (arith, cnt_nil y))
out_user s q S x (store b m) y h = absurd (omega (arith, cnt_nil y))
out_user s q S x (free {n = n} low high o) y h = rw (one_cnt y n.0 h) low

module _ (s : Sizes) (l q : ℕ) (c : List ℕ) (k : ℕ) (W : State) (d : Draining s l q c k W) where
  abbrev f : Frame
  f = W.frames l

  abbrev x : Row
  x = row_of s.levels l (W.frames l)

  abbrev a : After
  a = then W.mem (row_of s.levels l (W.frames l)) (counted (W.frames l))

  abbrev W' : State
  W' = stepped s.levels l W

  running : On q f
  running = ((λ (z : f.op ≡ 0). omega (arith, d.two)), d.on)

  st : Stepping s q W l d.seen.front
  st = sound_step s q W d.seen.front d.seen.sound l d.seen.low running d.seen.idle

  -- it has taken fewer steps than its bound
  pub lower : f.steps < operation_most l s.nodes
  lower = (runs_below s q s.nodes W d.seen.front d.seen.sound d.seen.paid l running).operation

  paid' : Paid s q s.nodes W'
  paid' =
      let few = few_nodes s q W d.seen.front d.seen.sound in
      (paid_step s q s.nodes W d.seen.front d.seen.sound few d.seen.paid l d.seen.low running d.seen.idle).paid

  pub stepped_to : StepsTo s l c W.mem f
  stepped_to =
      let on : (1 ≤ f.queue.0) × (f.queue.0 ≤ s.queues) = rw d.on (d.seen.sound.low, d.seen.sound.high) in
      let r =
      step_bridged s c d.seen.room l f d.frame d.seen.low running.0 d.seen.above st.op st.point on q W
      st.within in
      subst (λ (M : Mem). StepsTo s l c M f) (sym d.seen.mem)
      (record { table = r.0; is = r.1; room = r.2.room; mem = r.2.mem; frames_are = r.2.frames_are })

  abbrev u : List ℕ
  u = stepped_to.table

  -- ---- the nodes that leave

  balance : (y : ℕ) → own_in s q W' y + cnt y (out_of x) ≡ own_in s q W y
  balance y = out_balance s q W d.seen.sound.low y x st.within

  -- the row frees what the step returns
  out_is : (b : After) → a ≡ b → out_of x ≡ returned_by_step q (says_of (level l) (counted f) b)
  unfolding counted
  out_is b e =
      let plain = row_plain (point_of f.point) (counted f) (level l) (level s.levels) in
      sym (returns_out (level l) W.mem (counted f) s q W (point_of f.point) x st.within plain d.on (λ z. d.two))
      ∙ ap (λ (z : After). returned_by_step q (says_of (level l) (counted f) z)) e

  few_left : (xs : List ℕ) → ((y : ℕ) → cnt y xs ≤ own_in s q W' y) → ((y : ℕ) → 0 < cnt y xs → s.queues < y)
      → length (out_of x) + length xs ≤ k
  few_left xs h i = omega (arith, length-append (out_of x) xs, d.seen.few (out_of x ++ xs) part users)
    where
      part : (y : ℕ) → cnt y (out_of x ++ xs) ≤ own_in s q W y
      part y = simp counts (omega (arith, h y, balance y))

      users : (y : ℕ) → 0 < cnt y (out_of x ++ xs) → s.queues < y
      users y z = by (cnt y xs) refl
        where
          by : (n : ℕ) → cnt y xs ≡ n → s.queues < y
          by zero e = out_user s q W x st.within y (omega (arith, simp counts at z))
          by (suc n) e = i y (omega arith)

  seen_after : (k' : ℕ) → FewUsers s q k' W' → Seen s l q u k' W'
  seen_after k' few =
      seen_put s l q c u k k' W (mem_after W.mem x) (frame_after a) st.front' d.seen stepped_to.room (sym stepped_to.mem)
      stepped_to.frames_are st.sound paid' few

  -- the frame as it becomes, in the state and in the table
  frame_then : W'.frames l ≡ frame_after a
  frame_then = put_same W.frames l (frame_after a)

  frame_after_holds : frames s u l ≡ frame_after a
  frame_after_holds = ap (λ (F : ℕ → Frame). F l) stepped_to.frames_are ∙ put_same (frames s c) l (frame_after a)

  others_after : Quietly s l q k W → (j : ℕ) → j ≢ l → ¬ On q (W'.frames j)
  others_after z j ne = rw (put_other W.frames l (frame_after a) j ne) (z.others j ne)

  -- ---- it goes on

  module _ (g : Frame) (e : a ≡ Go g) where
    kept : (g.op ≡ f.op) × (g.queue ≡ f.queue) × (g.steps ≡ (counted f).steps)
    kept = goes_on W.mem s.levels l f g e

    frame_is : W'.frames l ≡ g
    frame_is = frame_then ∙ ap frame_after e

    draining_on : Draining s l q u k W'
    draining_on =
        record {
          seen = seen_after k (λ xs h i. omega (arith, few_left xs h i));
          frame = frame_then ∙ sym frame_after_holds;
          two = ap (λ (h : Frame). h.op) frame_is ∙ kept.0 ∙ d.two;
          on = ap (λ (h : Frame). h.queue.0) frame_is ∙ ap (λ (r : Queue). r.0) kept.1 ∙ d.on;
        }

    one_more : operation_most l s.nodes ≤ 65535 → (W'.frames l).steps ≡ f.steps + 1
    one_more cap = ap (λ (h : Frame). h.steps) frame_is ∙ kept.2 ∙ counts_one f (omega (arith, lower))

    none_out : out_of x ≡ []
    none_out = out_is (Go g) e

    quietly_on : Quietly s l q k W → Quietly s l q k W'
    quietly_on z =
        record {
          others = others_after z;
          users = z.users;
          owned = λ y. omega (arith, z.owned y, balance y, ap (cnt y) none_out, cnt_nil y);
          real = z.real;
          long = z.long;
        }

  -- ---- it ends

  module _ (n : Node) (e : a ≡ Done n) where
    idle_then : (W'.frames l).op ≡ 0
    idle_then = ap (λ (h : Frame). h.op) (frame_then ∙ ap frame_after e)

    -- empty, with no other operation on the queue: no node of the user's is in it
    quiet_over : n.0 ≡ 0 → Quietly s l q k W → k ≡ 0
    quiet_over z y = none y.users refl
      where
        at : (point_of f.point ≡ D2) × (W.mem.tail f.queue.0 ≡ f.c.0) × (mem_after W.mem x ≡ W.mem)
        at = ends_empty s q s.levels l W f n st.within d.two st.linked e z

        met : W.mem.tail q ≡ W.mem.head q
        met = rw d.on at at.1 ∙ pile_d2 l d.seen.sound.pile (d.seen.sound.listed l running) at.0

        nobody : (j : ℕ) → ¬ On q (W'.frames j)
        nobody j o = by (eqb j l) (same? j l)
          where
            by : (b : Bool) → Same j l b → ⊥
            by true (same i) = o.0 (ap (λ (m : ℕ). (W'.frames m).op) i ∙ idle_then)
            by false (apart i) = others_after y j i o

        none_owned : (v : ℕ) → s.queues < v → own_in s q W v ≡ 0
        none_owned v user =
            ap (λ (M : Mem). own s.queues M.uses q v) (sym at.2)
            ∙ empty_none s q W' st.front' st.sound nobody (rw at.2 met) v user

        none : (us : List ℕ) → y.users ≡ us → k ≡ 0
        none [] i = omega (arith, y.long, ap length i)
        none (v ∷ vs) i =
            let in_it : 0 < cnt v y.users = omega (arith, ap (cnt v) i, cnt_self v vs) in
            absurd (omega (arith, in_it, y.owned v, none_owned v (y.real v in_it)))

    -- with a node
    module _ (some : n.0 ≢ 0) where
      out_node : out_of x ≡ n.0 ∷ []
      unfolding counted
      out_node = out_is (Done n) e ∙ its_node q (end_of (level l) (counted f) n) d.two d.on some

      one_out : length (out_of x) ≡ 1
      one_out = ap length out_node

      was_some : k ≡ suc (k - 1)
      was_some = omega (arith, one_out, few_left [] (λ y. omega (arith, cnt_nil y)) (λ y z. absurd (omega (arith, cnt_nil y))))

      rested_then : Rested s l q u (k - 1) W'
      rested_then =
          record {
            seen = seen_after (k - 1) (λ xs h i. omega (arith, one_out, few_left xs h i));
            still = ap (λ (h : Frame). h.op) (frame_after_holds ∙ ap frame_after e);
            off = idle_then;
          }

      quietly_then : Quietly s l q k W → Quietly s l q (k - 1) W'
      quietly_then z =
          record {
            others = others_after z;
            users = without n.0 z.users;
            owned = λ y. left y (eqb y n.0) (same? y n.0) (cnt_without y n.0 z.users);
            real = λ y m. z.real y (omega (arith, cnt_less y n.0 z.users));
            long =
                omega (
                  arith,
                  z.long,
                  length_without n.0 z.users,
                  z.owned n.0,
                  own_le s.queues W.mem.uses q n.0,
                );
          }
        where
          left : (y : ℕ) (b : Bool) → Same y n.0 b → cnt y (without n.0 z.users) ≡ cond b 0 (cnt y z.users)
              → cnt y (without n.0 z.users) ≤ own_in s q W' y
          left y true i v = omega arith
          left y false (apart i) v = omega (arith, z.owned y, balance y, ap (cnt y) out_node, cnt_other y n.0 i)

  pub goes_to : operation_most l s.nodes ≤ 65535 → Goes s l q k W u (says_of (level l) (counted f) a)
  goes_to cap = by a refl
    where
      by : (b : After) → a ≡ b → Goes s l q k W u (says_of (level l) (counted f) b)
      by (Go g) e = onward (draining_on g e) (one_more g e cap) (quietly_on g e)
      by (Done n) e = ends (eqb n.0 0) (same? n.0 0)
        where
          ends : (b : Bool) → Same n.0 0 b → Goes s l q k W u (ended (end_of (level l) (counted f) n))
          ends true (same z) = over z (quiet_over n e z)
          ends false (apart z) = back (k - 1) z (was_some n e z) (rested_then n e z) (quietly_then n e z)

-- ---- all of them

-- the answer counts the nodes returned: k more than n at most, and just so many where P
pub record Answers (n k : ℕ) (P : Type 0) (o : Said ℕ) : Type 0 where
  pub count : ℕ
  pub is : o ≡ says count
  pub most : count ≤ n + k
  pub exact : P → count ≡ n + k

-- with k nodes of the user's in the queue, n returned before, and e steps left for each dequeue to come and for the one that runs
module _ (s : Sizes) (l q e : ℕ) (cap : operation_most l s.nodes ≤ 65535) (each : operation_most l s.nodes ≤ e) where
  abbrev Ends : ℕ → Type 0
  Ends left =
      (n k : ℕ) (c : List ℕ) (W : State) → Draining s l q c k W → k * e + e ≤ left + (W.frames l).steps
      → Answers n k (Quietly s l q k W) (drained s (queue q) (level l) left n c)

  -- after a step
  drain_on_holds : (left : ℕ) → Ends left → (n k : ℕ) (W : State) (u : List ℕ) (x : Step) → Goes s l q k W u x
      → (W.frames l).steps < operation_most l s.nodes → k * e + e ≤ suc left + (W.frames l).steps
      → Answers n k (Quietly s l q k W) (drain_on s (queue q) (level l) (drained s (queue q) (level l) left) n (says x) u)
  unfolding drain_on
  drain_on_holds left on n k W u going_on (onward d one quiet) low h =
      let r = on n k u (stepped s.levels l W) d (omega arith) in
      record { count = r.count; is = r.is; most = r.most; exact = λ z. r.exact (quiet z) }
  drain_on_holds left on n k W u (ended y) (over z quiet) low h =
      rw (eq-eqb y.node.0 0 z) (record { count = n; is = refl; most = omega arith; exact = λ v. omega (arith, quiet v) })
  drain_on_holds left on n k W u (ended y) (back k' z more rest quiet) low h =
      let next = stepped s.levels l W in
      let fewer : k * e ≡ k' * e + e = rw more (omega arith) in
      let r =
      on (n + 1) k' (dequeue_at s (queue q) (level l) u) (dequeue_begun next l q) (begins_draining s l q u k' next rest) (omega arith) in
      rw (ne_eqb y.node.0 0 z)
      (record {
        count = r.count;
        is = r.is;
        most = omega (arith, r.most);
        exact = λ v. omega (arith, r.exact (begins_quietly s l q u k' next (quiet v)));
      })

  pub drain_ends : (left : ℕ) → Ends left
  unfolding drained
  drain_ends zero n k c W d h = absurd (omega (arith, lower s l q c k W d))
  drain_ends (suc left) n k c W d h =
      let to = stepped_to s l q c k W d in
      rw to.is
      (drain_on_holds left (drain_ends left) n k W to.table _ (goes_to s l q c k W d cap) (lower s l q c k W d) h)
