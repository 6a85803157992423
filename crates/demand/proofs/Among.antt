-- A dequeue begun on a quiet queue, with nothing else begun on that queue, among whatever goes on on other queues: one step of any level.
-- What was in the queue when it began is what it returns, and then what is in the queue at its end.
use Rattle.std.specs.Prelude.{Some}
use Prim.Native.Nat.{ℕ, ◌+◌}
use mathlib.Core.Path.{◌≡◌, refl, sym, ap, ◌∙◌, subst}
use mathlib.Core.Logic.{◌≢◌, inl, inr}
use mathlib.Core.Bool.{Bool, true, false, cond}
use mathlib.Core.List.{List, [], ◌∷◌, ◌++◌, append-nil}
use native.Mathlib.Omega.{arith}
use lib.Dec.{eqb}
use borrow.Author.Tests.{ne_eqb, eq-eqb}
use Rattle.words.specs.declared.Level.{Level}
use Rattle.words.specs.declared.Queue.{Queue}
use Rattle.words.specs.declared.Node.{Node}
use Rattle.words.specs.declared.Sizes.{Sizes}
use Rattle.words.specs.declared.Frame.{Frame}
use Rattle.words.specs.Layout.{level, no_frame, measured}
use Rattle.answers.specs.declared.End.{End}
use Rattle.answers.specs.Said.{Step, going_on, ended}
use Rattle.table.specs.declared.After.{After}
use Rattle.table.specs.declared.After.TheVariants.{Go, Done}
use Rattle.table.specs.Points.{D2, point_of}
use Rattle.table.specs.Frames.{counted}
use Rattle.steps.specs.Step.{end_of}
use Rattle.lists.specs.Count.{Same, same, apart, same?, cnt, counts}
use Rattle.lists.specs.Beginning.{Beginning, begins_trans, begins_whole}
use Rattle.state.specs.Mem.{Mem, put, put_same, put_other}
use Rattle.state.specs.Step.{mem_after, then, frame_after, row_of}
use Rattle.state.specs.View.{memory, frames, state_of}
use Rattle.state.specs.Queues.{On, own}
use Rattle.invariant.specs.Ghost.{Item, Stack, Listed}
use Rattle.invariant.specs.Facts.{Regs, View, Here, is_loose, d2, Pile, upon, is_mark, is_owner, bottom}
use Rattle.invariant.specs.Sound.{Sound}
use Rattle.demand.proofs.World.{World}
use Rattle.demand.proofs.Rows.{next_frame, next_on, goes_on, ends_empty}
use Rattle.demand.proofs.Bridge.{says_of}
use Rattle.demand.proofs.Keeps.{Keeps}
use Rattle.demand.proofs.Steps.{StepAt, no_node, its_node, returns_none}
use Rattle.demand.proofs.Alone.{First, nothing, user, behind}
use Rattle.demand.proofs.Moments.{Nobody, own_sentinel, still_front, still_once, still_first}
use Rattle.demand.proofs.Dequeue.{Ending}
use Rattle.demand.specs.History.{returned_at_end, returned_by_step, ended_at, of_step, still_in}
use Rattle.demand.specs.Demand.{first_of}

-- ---- an empty end

-- the invariant at D2: c is head
here_d2 : {top q l : ℕ} {v : View} {g : Regs} {i : Item} {st : Stack} {b b' : Bool} → Here top q v l g D2 i st b b' → g.c ≡ v.head
here_d2 (is_loose z (d2 o e)) = e
here_d2 (is_owner _ _ _ h) = elim h [ ]
here_d2 (is_mark _ _ h) = elim h [ ]

pub pile_d2 : {top q : ℕ} {v : View} {fr : ℕ → Frame} {n : ℕ} {st : Stack} {b : Bool} (l : ℕ) → Pile top q v fr n st b → Listed l st
    → point_of (fr l).point ≡ D2 → (fr l).c.0 ≡ v.head
pile_d2 {fr = fr} l (upon {l = j} a o e h d) (inl z) p =
    let at_d2 : point_of (fr j).point ≡ D2 = rw z at p in rw z (here_d2 (rw (sym e ∙ at_d2) at h))
pile_d2 l (upon a o e h d) (inr z) p = pile_d2 l d z p
pile_d2 l bottom h p = elim h [ ]

-- a queue whose tail is head has no first node
pub first_none : {M : Mem} {q x : ℕ} → First M q x → M.tail q ≡ M.head q → x ≡ 0
first_none (nothing e) h = refl
first_none (user e own more linked) h = absurd (more (h ∙ e))
first_none (behind e more second own real end linked) h = absurd (more (h ∙ e))

-- ---- other queues

-- a frame put at level i comes to no queue that the one before it was not on
put_on : (q : ℕ) (F : ℕ → Frame) (i : ℕ) (g : Frame) → (On q g → On q (F i)) → (j : ℕ) → On q (put F i g j) → On q (F j)
put_on q F i g h j = by (eqb j i) (same? j i)
  where
    by : (b : Bool) → Same j i b → On q (put F i g j) → On q (F j)
    by true (same e) o = rw e (h (rw (e, put_same F i g) at o))
    by false (apart e) o = rw (put_other F i g j e) at o

-- a step of another queue ends nothing on this one
ended_none : (q : ℕ) (l : Level) (f : Frame) (a : After) → f.queue.0 ≢ q → of_step (ended_at q) (says_of l f a) ≡ []
ended_none q l f (Go g) h = refl
ended_none q l f (Done n) h = rw (ne_eqb f.queue.0 q h)

-- ---- since the dequeue began

-- the table t in which it began, at level l on q, which was quiet
pub record Begun : Type 0 where
  pub s : Sizes
  pub t : List ℕ
  pub l : Level
  pub q : Queue
  pub fronts : ℕ → List ℕ
  pub sized : measured t ≡ Some s
  pub world : World s (state_of s t) fronts
  pub nobody : Nobody s t q

module _ (B : Begun) where
  open B use {s, t, l, q}

  -- what was in q when it began
  abbrev pub before : List ℕ
  before = still_in B.s B.t B.q

  -- 1 for a node of q in table x
  abbrev owned_in : List ℕ → ℕ → ℕ
  owned_in x n = own B.s.queues (memory B.s x).uses B.q.0 n

  -- a frame of table x is on q
  abbrev pub OnIt : List ℕ → ℕ → Type 0
  OnIt x j = On B.q.0 (frames B.s x j)

  -- it is the one operation on q, and no node came to q or left it
  pub record Running (x : List ℕ) (fronts : ℕ → List ℕ) : Type 0 where
    pub op : (frames s x l.0).op ≡ 2
    pub queue_is : (frames s x l.0).queue ≡ q
    pub only : (j : ℕ) → OnIt x j → j ≡ l.0
    pub begins : Beginning before (fronts q.0)
    pub owned : (n : ℕ) → owned_in x n ≡ owned_in t n

  -- it runs, and nothing ended on q; or it ended, with the first node, and nothing is on q
  pub data Stage (x : List ℕ) (fronts : ℕ → List ℕ) : List End → Type 0 where
    runs : Running x fronts → Stage x fronts []
    over : ((j : ℕ) → ¬ OnIt x j) → (e : End) → Ending l.0 2 q (first_of before) e → Stage x fronts (e ∷ [])

  -- its frame is on q
  pub on_it : (x : List ℕ) (fronts : ℕ → List ℕ) → Running x fronts → OnIt x l.0
  on_it x fronts r = ((λ z. omega (arith, r.op)), ap (λ (u : Queue). u.0) r.queue_is)

  -- what a call keeps that returned nothing from q and handed nothing to it
  module _ (x y : List ℕ) (fronts ret han : ℕ → List ℕ) (k : Keeps s x fronts ret han y) (none_out : ret q.0 ≡ [])
      (none_in : han q.0 ≡ []) where
    still_running : (frames s y l.0).op ≡ 2 → (frames s y l.0).queue ≡ q → ((j : ℕ) → OnIt y j → OnIt x j)
        → Running x fronts → Running y k.fronts'
    still_running op queue_is was r =
        record {
          op = op;
          queue_is = queue_is;
          only = λ j o. r.only j (was j o);
          begins = begins_trans before (fronts q.0) (k.fronts' q.0) r.begins (rw none_out at (k.begins q.0));
          owned = λ n. owned n (k.balance q.0 B.nobody.some_queue n);
        }
      where
        owned : (n : ℕ) → owned_in y n + cnt n (ret q.0) ≡ owned_in x n + cnt n (han q.0) → owned_in y n ≡ owned_in t n
        owned n e = omega (arith, rw (none_out, none_in) at e, r.owned n)

    -- and that put a frame at level i, which was on another queue or none and is so again
    pub elsewhere : (i : ℕ) (g : Frame) → frames s y ≡ put (frames s x) i g → ¬ OnIt x i → ¬ On q.0 g
        → (es : List End) → Stage x fronts es → Stage y k.fronts' es
    elsewhere i g put_in off_before off_then es st = by st
      where
        was : (j : ℕ) → OnIt y j → OnIt x j
        was j o = put_on q.0 (frames s x) i g (λ z. absurd (off_then z)) j (rw put_in at o)

        by : {es : List End} → Stage x fronts es → Stage y k.fronts' es
        by (over nobody e h) = over (λ j o. nobody j (was j o)) e h
        by (runs r) =
            let other : l.0 ≢ i = λ z. off_before (rw (← z) (on_it x fronts r)) in
            let same = ap (λ (F : ℕ → Frame). F l.0) put_in ∙ put_other (frames s x) i g l.0 other in
            let op = ap (λ (f : Frame). f.op) same ∙ r.op in
            let queue_is = ap (λ (f : Frame). f.queue) same ∙ r.queue_is in
            runs (still_running op queue_is was r)

  -- ---- a step, of the frame at level i

  module _ (x : List ℕ) (fronts : ℕ → List ℕ) (w : World s (state_of s x) fronts) (i : ℕ) (y : Step) (a : StepAt s x fronts i y) where
    abbrev f : Frame
    f = frames B.s x i

    abbrev u : List ℕ
    u = a.table

    abbrev k : Keeps B.s x fronts (λ p. returned_by_step p y) (λ p. []) a.table
    k = a.keeps

    abbrev follows : After
    follows = then (memory B.s x) (row_of B.s.levels i (frames B.s x i)) (counted (frames B.s x i))

    was_on : (j : ℕ) → OnIt u j → OnIt x j
    was_on j o =
        put_on q.0 (frames s x) i (next_frame (memory s x) s.levels i f) (next_on q.0 (memory s x) s.levels i f) j
        (rw a.bridged.frames_are at o)

    -- a step of its own
    module _ (r : Running x fronts) (on : On q.0 f) where
      mine : i ≡ l.0
      mine = r.only i on

      two : f.op ≡ 2
      two = rw mine r.op

      on_q : f.queue ≡ q
      on_q = rw mine r.queue_is

      -- it goes on
      goes : (g : Frame) → follows ≡ Go g → Stage u k.fronts' (of_step (ended_at q.0) y)
      goes g d =
          subst (Stage u k.fronts') (sym (ap (of_step (ended_at q.0)) said))
          (runs (still_running x u fronts (λ p. returned_by_step p y) (λ p. []) k (ap (returned_by_step q.0) said) refl
          (ap (λ (h : Frame). h.op) frame ∙ kept.0 ∙ two) (ap (λ (h : Frame). h.queue) frame ∙ kept.1 ∙ on_q) was_on r))
        where
          said : y ≡ going_on
          said = a.said ∙ ap (says_of (level i) (counted f)) d

          frame : frames s u l.0 ≡ g
          frame =
              ap (λ (F : ℕ → Frame). F l.0) a.bridged.frames_are ∙ ap (put (frames s x) i (frame_after follows)) (sym mine)
              ∙ put_same (frames s x) i (frame_after follows) ∙ ap frame_after d

          kept : (g.op ≡ f.op) × (g.queue ≡ f.queue) × (g.steps ≡ (counted f).steps)
          kept = goes_on (memory s x) s.levels i f g d

      -- it ends, with node n
      module _ (n : Node) (d : follows ≡ Done n) where
        abbrev e : End
        e = end_of (level i) (counted (frames B.s x i)) n

        said : y ≡ ended e
        said = a.said ∙ ap (says_of (level i) (counted f)) d

        gone : (j : ℕ) → ¬ OnIt u j
        gone j o = o.0 (ap (λ (F : ℕ → Frame). (F j).op) frames_are ∙ ap (λ (g : Frame). g.op) none)
          where
            frames_are : frames s u ≡ put (frames s x) i no_frame
            frames_are = a.bridged.frames_are ∙ ap (λ (z : After). put (frames s x) i (frame_after z)) d

            none : put (frames s x) i no_frame j ≡ no_frame
            none = ap (put (frames s x) i no_frame) (r.only j (was_on j o) ∙ sym mine) ∙ put_same (frames s x) i no_frame

        nobody_now : Nobody s u q
        nobody_now = record { some_queue = B.nobody.some_queue; queue_known = B.nobody.queue_known; nobody = gone }

        -- all that was in q was returned or is in q still: the one is a beginning of the other, and they hold the same nodes
        all_there : before ≡ returned_by_step q.0 y ++ still_in s u q
        all_there = begins_whole before (returned_by_step q.0 y ++ still_in s u q) begins held
          where
            out : List ℕ
            out = returned_by_step q.0 y

            begins : Beginning before (returned_by_step q.0 y ++ still_in s u q)
            begins =
                rw (still_front s u k.fronts' k.sized k.world q nobody_now)
                (begins_trans before (fronts q.0) (out ++ k.fronts' q.0) r.begins (k.begins q.0))

            held : (n : ℕ) → cnt n (returned_by_step q.0 y ++ still_in s u q) ≡ cnt n before
            held n =
                by (eqb n q.0) (same? n q.0) (still_once s t B.fronts B.sized B.world q B.nobody n)
                (still_once s u k.fronts' k.sized k.world q nobody_now n)
              where
                sentinel : (z : List ℕ) → owned_in z q.0 ≡ 1
                sentinel z = own_sentinel s.queues (memory s z).uses q.0 B.nobody.queue_known

                moved : owned_in u n + cnt n (returned_by_step q.0 y) ≡ owned_in t n
                moved = omega (arith, simp counts at (k.balance q.0 B.nobody.some_queue n), r.owned n)

                by : (b : Bool) → Same n q.0 b → cnt n before ≡ cond b 0 (owned_in t n) → cnt n (still_in s u q) ≡ cond b 0 (owned_in u n)
                    → cnt n (returned_by_step q.0 y ++ still_in s u q) ≡ cnt n before
                by true (same z) then now =
                    let in_u : owned_in u n ≡ 1 = rw z (sentinel u) in
                    let in_t : owned_in t n ≡ 1 = rw z (sentinel t) in
                    simp counts (omega (arith, moved))
                by false (apart z) then now = simp counts (omega (arith, moved))

        -- an empty end is D2's: tail is c, c is head
        empty_now : n.0 ≡ 0 → first_of (still_in s u q) ≡ 0
        empty_now z = first_none (still_first s u k.fronts' k.sized k.world q nobody_now) (rw mem tail_is)
          where
            here : Sound s q.0 (state_of s x) (fronts q.0)
            here = w.sound q.0 B.nobody.some_queue B.nobody.queue_known

            at : (point_of f.point ≡ D2) × ((memory s x).tail f.queue.0 ≡ f.c.0)
                × (mem_after (memory s x) (row_of s.levels i f) ≡ memory s x)
            at = ends_empty s f.queue.0 s.levels i (state_of s x) f n a.moving.within two a.moving.linked d z

            mem : memory s u ≡ memory s x
            mem = a.bridged.mem ∙ at.2

            tail_is : (memory s x).tail q.0 ≡ (memory s x).head q.0
            tail_is = rw (← on.1) at.1 ∙ pile_d2 i here.pile (here.listed i on) at.0

        answer : n.0 ≡ first_of before
        unfolding counted
        answer = by (eqb n.0 0) (same? n.0 0)
          where
            first : (xs : List ℕ) → returned_at_end q.0 e ≡ xs → first_of before ≡ first_of (xs ++ still_in s u q)
            first xs h = ap first_of (all_there ∙ ap (λ (p : List ℕ). p ++ still_in s u q) (ap (returned_by_step q.0) said ∙ h))

            by : (b : Bool) → Same n.0 0 b → n.0 ≡ first_of before
            by true (same z) = z ∙ sym (first [] (no_node q.0 e z) ∙ empty_now z)
            by false (apart z) = sym (first (n.0 ∷ []) (its_node q.0 e two on.1 z))

        ends : Stage u k.fronts' (of_step (ended_at q.0) y)
        unfolding counted
        ends =
            subst (Stage u k.fronts') (sym (ap (of_step (ended_at q.0)) said ∙ on_it_alone))
            (over gone e (record { op = two; level_is = ap level mine; queue_is = on_q; node_is = answer }))
          where
            on_it_alone : ended_at q.0 e ≡ e ∷ []
            on_it_alone = rw (eq-eqb f.queue.0 q.0 on.1)

      own_step : Stage u k.fronts' (of_step (ended_at q.0) y)
      own_step = by follows refl
        where
          by : (z : After) → follows ≡ z → Stage u k.fronts' (of_step (ended_at q.0) y)
          by (Done n) d = ends n d
          by (Go g) d = goes g d

    -- a step of another queue
    other_step : f.queue.0 ≢ q.0 → (es : List End) → Stage x fronts es → Stage u k.fronts' (es ++ of_step (ended_at q.0) y)
    unfolding counted
    other_step ne es st =
        subst (Stage u k.fronts') (sym (ap (λ (p : List End). es ++ p) none ∙ append-nil es))
        (elsewhere x u fronts (λ p. returned_by_step p y) (λ p. []) k returns refl i (next_frame (memory s x) s.levels i f)
        a.bridged.frames_are (λ o. ne o.1) (λ o. ne (next_on q.0 (memory s x) s.levels i f o).1) es st)
      where
        none : of_step (ended_at q.0) y ≡ []
        none = ap (of_step (ended_at q.0)) a.said ∙ ended_none q.0 (level i) (counted f) follows ne

        returns : returned_by_step q.0 y ≡ []
        returns = ap (returned_by_step q.0) a.said ∙ returns_none (level i) (memory s x) (counted f) q.0 follows ne

    pub stage_step : (es : List End) → Stage x fronts es → Stage u k.fronts' (es ++ of_step (ended_at q.0) y)
    stage_step es st = by (eqb f.queue.0 q.0) (same? f.queue.0 q.0) st
      where
        by : (b : Bool) → Same f.queue.0 q.0 b → {es : List End} → Stage x fronts es
            → Stage u k.fronts' (es ++ of_step (ended_at q.0) y)
        by true (same z) (runs r) = own_step r (a.runs, z)
        by true (same z) (over nobody e h) = absurd (nobody i (a.runs, z))
        by false (apart z) {es} st = other_step z es st
