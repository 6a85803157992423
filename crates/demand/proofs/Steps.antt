-- One step of the table, for all queues at once: it is never refused but with 9, where nothing runs; what holds of every queue holds
-- afterwards; what it returned is the first of what was frozen; and a node leaves its queue exactly where it is returned.
use Rattle.std.specs.Prelude.{Some, Option, None}
use Prim.Native.Nat.{ℕ, zero, suc, ◌+◌, ◌≤◌, ◌<◌}
use mathlib.Core.Path.{◌≡◌, refl, sym, ap, ◌∙◌}
use mathlib.Core.Logic.{◌≢◌}
use mathlib.Core.Bool.{Bool, true, false, cond, not, ◌&&◌}
use mathlib.Core.List.{List, [], ◌∷◌, ◌++◌}
use native.Mathlib.Omega.{arith}
use lib.Dec.{leb, eqb}
use lib.ListN.{length}
use borrow.Author.Tests.{eq-eqb, ne_eqb, le-leb, lt-leb}
use Rattle.words.specs.declared.Level.{Level}
use Rattle.words.specs.declared.Sizes.{Sizes}
use Rattle.words.specs.declared.Frame.{Frame}
use Rattle.words.specs.declared.Word.{Word}
use Rattle.words.specs.declared.Word.TheVariants.{LevelNode, LevelQueue, Head, Tail, Next, Use}
use Rattle.words.specs.Layout.{level, words, measured, frame_of}
use Rattle.words.specs.Laws.{within_is, measured_fits}
use Rattle.answers.specs.declared.End.{End}
use Rattle.table.specs.declared.After.{After}
use Rattle.table.specs.declared.After.TheVariants.{Go, Done}
use Rattle.table.specs.Points.{Point, D7, point_of}
use Rattle.table.specs.Frames.{counted}
use Rattle.table.specs.Table.{Row}
use Rattle.answers.specs.Said.{refused, says, Step}
use Rattle.steps.specs.Step.{serving, strays, sound, end_of, step_frame, step_served, step_sized}
use Rattle.steps.proofs.Singly.{stepped_kept}
use Rattle.lists.specs.Count.{Same, same, apart, same?, cnt, counts}
use Rattle.lists.specs.Beginning.{Beginning, begins_same}
use Rattle.state.specs.Mem.{Mem, look, upd}
use Rattle.state.specs.Step.{State, mem_after, then, row_of, stepped}
use Rattle.state.specs.View.{memory, frames, state_of}
use Rattle.state.proofs.Seen.{frame_is, frame_idle}
use Rattle.state.specs.Queues.{On, own, Mine, Within, load, store, free, out_of}
use Rattle.demand.proofs.World.{World, Moving, world_step}
use Rattle.demand.proofs.Rows.{Plain, goes, empty, handed, Plainly, row_plain, number_d7}
use Rattle.invariant.proofs.Own.{own_freed}
use Rattle.demand.proofs.Apart.{own_use, own_put}
use Rattle.demand.proofs.Bridge.{says_of, Bridged, performed_is}
use Rattle.demand.proofs.Keeps.{Keeps}
use Rattle.demand.specs.History.{returned_at_end, returned_by_step}

-- ---- the level that a step serves

data Serves (s : Sizes) (t : List ℕ) (n : ℕ) : Option Level → Type 0 where
  nobody : ((j : ℕ) → j < n → (frame_of s t (level j)).op ≡ 0) → Serves s t n None
  serves : (l : ℕ) → l < n → (frame_of s t (level l)).op ≢ 0 → ((j : ℕ) → l < j → j < n → (frame_of s t (level j)).op ≡ 0)
      → Serves s t n (Some (level l))

served : (s : Sizes) (t : List ℕ) (n : ℕ) → Serves s t n (serving s t n)
unfolding serving
served s t zero = nobody (λ j h. absurd (omega arith))
served s t (suc n) = by (eqb (op n) 0) (same? (op n) 0) (served s t n)
  where
    op : ℕ → ℕ
    op j = (frame_of s t (level j)).op

    up : (j : ℕ) → op n ≡ 0 → j < suc n → (j < n → op j ≡ 0) → op j ≡ 0
    up j e h k = pick (eqb j n) (same? j n)
      where
        pick : (b : Bool) → Same j n b → op j ≡ 0
        pick true (same z) = rw z e
        pick false (apart z) = k (omega arith)

    lift : (x : Option Level) → op n ≡ 0 → Serves s t n x → Serves s t (suc n) x
    lift x e (nobody h) = nobody (λ j k. up j e k (h j))
    lift x e (serves l low run h) = serves l (omega arith) run (λ j a b. up j e b (h j a))

    by : (b : Bool) → Same (op n) 0 b → Serves s t n (serving s t n) → Serves s t (suc n) (cond b (serving s t n) (Some (level n)))
    by true (same e) k = lift (serving s t n) e k
    by false (apart e) k = serves n (omega arith) e (λ j a b. absurd (omega arith))

-- the highest level that runs is served
pub serving_is : (s : Sizes) (t : List ℕ) (l n : ℕ) → l < n → (frame_of s t (level l)).op ≢ 0
    → ((j : ℕ) → l < j → j < n → (frame_of s t (level j)).op ≡ 0) → serving s t n ≡ Some (level l)
unfolding serving
serving_is s t l zero low run top = absurd (omega arith)
serving_is s t l (suc n) low run top = by (eqb (op n) 0) (same? (op n) 0) (eqb l n) (same? l n) (serving_is s t l n)
  where
    op : ℕ → ℕ
    op j = (frame_of s t (level j)).op

    by : (b : Bool) → Same (op n) 0 b → (c : Bool) → Same l n c
        → (l < n → op l ≢ 0 → ((j : ℕ) → l < j → j < n → op j ≡ 0) → serving s t n ≡ Some (level l))
        → cond b (serving s t n) (Some (level n)) ≡ Some (level l)
    by true (same e) true (same z) ih = absurd (run (rw z e))
    by false (apart e) true (same z) ih = rw z
    by true (same e) false (apart z) ih = ih (omega arith) run (λ j a b. top j a (omega arith))
    by false (apart e) false (apart z) ih = absurd (e (top n (omega arith) (omega arith)))

-- what it means that a level is served
pub serves_at : (s : Sizes) (t : List ℕ) (n : ℕ) (l : Level) → serving s t n ≡ Some l
    → (l.0 < n) × ((frame_of s t l).op ≢ 0) × ((j : ℕ) → l.0 < j → j < n → (frame_of s t (level j)).op ≡ 0)
serves_at s t n l e = by (serving s t n) (served s t n) e
  where
    by : (v : Option Level) → Serves s t n v → v ≡ Some l
        → (l.0 < n) × ((frame_of s t l).op ≢ 0) × ((j : ℕ) → l.0 < j → j < n → (frame_of s t (level j)).op ≡ 0)
    by v (nobody h) e = cc
    by v (serves k low run top) e = let z : level k ≡ l = cc in rw (← z) (low, run, top)

-- ---- what a step returns

module _ (r : ℕ) (e : End) where
  no_dequeue : e.op ≡ 1 → returned_at_end r e ≡ []
  no_dequeue h = rw (ne_eqb e.op 2 (λ z. omega arith))

  pub no_node : e.node.0 ≡ 0 → returned_at_end r e ≡ []
  no_node h = by (eqb e.op 2) (eqb e.queue.0 r) (eqb e.node.0 0) (eq-eqb e.node.0 0 h)
    where
      by : (a b c : Bool) → c ≡ true → cond (a && b && not c) (e.node.0 ∷ []) [] ≡ []
      by true true true h = refl
      by true false true h = refl
      by false b true h = refl
      by a b false h = cc

  other_queue : e.queue.0 ≢ r → returned_at_end r e ≡ []
  other_queue h = by (eqb e.op 2) (eqb e.queue.0 r) (ne_eqb e.queue.0 r h)
    where
      by : (a b : Bool) → b ≡ false → cond (a && b && not (eqb e.node.0 0)) (e.node.0 ∷ []) [] ≡ []
      by true false h = refl
      by false b h = refl
      by true true h = cc

  pub its_node : e.op ≡ 2 → e.queue.0 ≡ r → e.node.0 ≢ 0 → returned_at_end r e ≡ e.node.0 ∷ []
  its_node h k n = rw (eq-eqb e.op 2 h, eq-eqb e.queue.0 r k, ne_eqb e.node.0 0 n)

module _ (l : Level) (M : Mem) (f : Frame) where
  -- a step of another queue returns nothing from this one
  pub returns_none : (r : ℕ) (a : After) → f.queue.0 ≢ r → returned_by_step r (says_of l f a) ≡ []
  returns_none r (Go g) h = refl
  returns_none r (Done n) h = other_queue r (end_of l f n) h

  plain_none : (r : ℕ) (p : Point) (a : After) → Plain p f a → returned_by_step r (says_of l f a) ≡ []
  plain_none r p a (goes o q n) = refl
  plain_none r p a (empty {n = n} d e) = no_node r (end_of l f n) e
  plain_none r p a (handed {n = n} o e) = no_dequeue r (end_of l f n) o

  -- a step returns the node that its row frees
  pub returns_out : (s : Sizes) (q : ℕ) (S : State) (p : Point) (x : Row) → Within s q S x → Plainly p f x → f.queue.0 ≡ q
      → (p ≡ D7 → f.op ≡ 2) → returned_by_step q (says_of l f (then M x f)) ≡ out_of x
  returns_out s q S p x (load b) (Plainly.load {w = w} h) k d = plain_none q p _ (h (look M w))
  returns_out s q S p x (store b m) (Plainly.store h) k d = plain_none q p _ h
  returns_out s q S p x (free low high o) (Plainly.free {n = n} z e) k d = its_node q (end_of l f n) (d z) k (omega arith)

-- ---- what one step does

-- refusal 10 asks nothing of a frame that the invariant does not give
sound_is : (s : Sizes) (f : Frame) → f.op ≤ 2 → (f.op ≡ 1 → f.point < 31) → (1 ≤ f.queue.0) × (f.queue.0 ≤ s.queues)
    → sound s (counted f) ≡ true
unfolding sound strays counted
sound_is s f o p b = simp (le-leb f.op 2 o, within_is 1 s.queues f.queue.0 b.0 b.1) (by (eqb f.op 1) (same? f.op 1))
  where
    by : (a : Bool) → Same f.op 1 a → not (a && leb 31 f.point) && true ≡ true
    by true (same e) = rw (lt-leb 31 f.point (p e))
    by false (apart e) = refl

-- a store changes no use word
use_stored : (s : Sizes) (q : ℕ) (S : State) (w : Word) (v : ℕ) → Mine s q S w v → (upd S.mem w v).uses ≡ S.mem.uses
use_stored s q S (LevelNode j) v m = refl
use_stored s q S (LevelQueue j) v m = refl
use_stored s q S (Head j) v m = refl
use_stored s q S (Tail j) v m = refl
use_stored s q S (Next j) v m = refl
use_stored s q S (Use j) v m = absurd m

-- the node that a row frees leaves its queue; no other does, and none of another queue
module _ (s : Sizes) (q : ℕ) (S : State) (some : 1 ≤ q) (y : ℕ) where
  abbrev owned : Mem → ℕ
  owned M = own s.queues M.uses q y

  pub out_balance : (x : Row) → Within s q S x → owned (mem_after S.mem x) + cnt y (out_of x) ≡ owned S.mem
  out_balance x (load b) = simp counts (omega arith)
  out_balance x (store {w = w} {v = v} b m) = rw (use_stored s q S w v m) (simp counts (omega arith))
  out_balance x (free {n = n} low high o) =
      let e = own_freed s.queues S.mem.uses q n.0 some low o y in omega arith

  others_balance : (r : ℕ) (x : Row) → q ≢ r → Within s r S x → owned (mem_after S.mem x) ≡ owned S.mem
  others_balance r x ne (load b) = refl
  others_balance r x ne (store {w = w} {v = v} b m) = rw (use_stored s r S w v m)
  others_balance r x ne (free {n = n} low high o) =
      own_put s.queues S.mem.uses q n.0 0 (λ e. ne (sym e ∙ own_use s.queues S.mem.uses r n.0 low o))
      (λ e. omega arith) y

-- A step of the frame f at level l, the highest that runs: it is one that a step accepts, and its access is within the table. Nothing else
-- of the table is looked at, not even its counts.
pub step_bridged : (s : Sizes) (t : List ℕ) → words s ≤ length t → (l : ℕ) (f : Frame) → f ≡ frames s t l → l < s.levels
    → f.op ≢ 0 → ((j : ℕ) → l < j → (frames s t j).op ≡ 0)
    → f.op ≤ 2 → (f.op ≡ 1 → f.point < 31) → (1 ≤ f.queue.0) × (f.queue.0 ≤ s.queues)
    → (q : ℕ) (S : State) → Within s q S (row_of s.levels l f)
    → (u : List ℕ) × (step_sized s t ≡ (says (says_of (level l) (counted f) (then (memory s t) (row_of s.levels l f) (counted f))), u))
    × Bridged s t u l (counted f) (row_of s.levels l f)
unfolding step_sized step_served step_frame
step_bridged s t room l f is low run top known early on q S inside =
    let here : f ≡ frame_of s t (level l) = is ∙ frame_is s t l low in
    let done = performed_is s l low t room q S (counted f) (row_of s.levels l f) inside in
    let served = serving_is s t l s.levels low (λ z. run (ap (λ (g : Frame). g.op) here ∙ z))
    (λ j a b. ap (λ (g : Frame). g.op) (sym (frame_is s t j b)) ∙ top j a) in (
      done.0,
      rw served (ap (λ (g : Frame). step_frame s t (level l) (counted g)) (sym here) ∙ rw (sound_is s f known early on) done.1),
      done.2,
    )

-- a step that serves the frame at level l, the highest that runs, and says x
pub record StepAt (s : Sizes) (t : List ℕ) (fronts : ℕ → List ℕ) (l : ℕ) (x : Step) : Type 0 where
  pub table : List ℕ
  pub is : step_sized s t ≡ (says x, table)
  pub bridged : Bridged s t table l (counted (frames s t l)) (row_of s.levels l (frames s t l))
  pub keeps : Keeps s t fronts (λ q. returned_by_step q x) (λ q. []) table
  pub low : l < s.levels
  pub runs : (frames s t l).op ≢ 0
  pub highest : (j : ℕ) → l < j → (frames s t j).op ≡ 0
  pub moving : Moving s (state_of s t) fronts l (frames s t l).queue.0
  pub said : x ≡ says_of (level l) (counted (frames s t l)) (then (memory s t) (row_of s.levels l (frames s t l)) (counted (frames s t l)))

pub data Outcome (s : Sizes) (t : List ℕ) (fronts : ℕ → List ℕ) : Type 0 where
  idle : step_sized s t ≡ (refused 9, t) → ((j : ℕ) → (frames s t j).op ≡ 0) → Outcome s t fronts
  took : (l : ℕ) (x : Step) → StepAt s t fronts l x → Outcome s t fronts

module _ (s : Sizes) (t : List ℕ) (fronts : ℕ → List ℕ) (m : measured t ≡ Some s) (w : World s (state_of s t) fronts) where
  -- the frame at level l is served
  module _ (l : ℕ) (low : l < s.levels) (run : (frame_of s t (level l)).op ≢ 0)
      (top : (j : ℕ) → l < j → j < s.levels → (frame_of s t (level j)).op ≡ 0) where
    abbrev f : Frame
    f = frames s t l

    abbrev q : ℕ
    q = (frames s t l).queue.0

    abbrev x : Row
    x = row_of s.levels l (frames s t l)

    abbrev a : After
    a = then (memory s t) (row_of s.levels l (frames s t l)) (counted (frames s t l))

    running : On q (frames s t l)
    running = (rw (frame_is s t l low) run, refl)

    somewhere : (1 ≤ q) × (q ≤ s.queues)
    somewhere = w.on_some l running.0

    k : Moving s (state_of s t) fronts l q
    k = world_step s (state_of s t) fronts w l q low running (λ j h. frame_idle s t j (top j h))

    plain : Plainly (point_of (counted f).point) (counted f) x
    plain = row_plain (point_of (counted f).point) (counted f) (level l) (level s.levels)

    -- only a dequeue comes to D7
    dequeues : point_of (counted f).point ≡ D7 → (counted f).op ≡ 2
    unfolding counted
    dequeues e =
        let o = k.op in
        let p = number_d7 f.point e in
        by (eqb f.op 1) (same? f.op 1)
      where
        by : (b : Bool) → Same f.op 1 b → f.op ≡ 2
        by true (same z) = absurd (omega (arith, k.point z, number_d7 f.point e))
        by false (apart z) = let o = k.op in let r = running.0 in omega arith

    took_from : (u : List ℕ) → measured u ≡ Some s → Bridged s t u l (counted f) x
        → Keeps s t fronts (λ r. returned_by_step r (says_of (level l) (counted f) a)) (λ r. []) u
    unfolding counted
    took_from u sized b =
        record { sized = sized; fronts' = k.fronts'; world = rw state k.world; begins = begins; balance = balance }
      where
        state : state_of s u ≡ stepped s.levels l (state_of s t)
        state = λ i. record { mem = b.mem i; frames = b.frames_are i }

        given : Step
        given = says_of (level l) (counted f) a

        here : returned_by_step q given ≡ out_of x
        here = returns_out (level l) (memory s t) (counted f) s q (state_of s t) (point_of f.point) x k.within plain refl dequeues

        there : (r : ℕ) → r ≢ q → returned_by_step r given ≡ []
        there r ne = returns_none (level l) (memory s t) (counted f) r a (λ e. ne (sym e))

        begins : (r : ℕ) → Beginning (fronts r) (returned_by_step r given ++ k.fronts' r)
        begins r = by (eqb r q) (same? r q)
          where
            by : (c : Bool) → Same r q c → Beginning (fronts r) (returned_by_step r given ++ k.fronts' r)
            by true (same e) = rw (e, here) k.begins
            by false (apart e) = rw (there r e, k.others r e) (begins_same (fronts r))

        balance : (r : ℕ) → 1 ≤ r → (y : ℕ)
            → own s.queues (memory s u).uses r y + cnt y (returned_by_step r given) ≡ own s.queues (memory s t).uses r y + cnt y []
        balance r some y = by (eqb r q) (same? r q)
          where
            by : (c : Bool) → Same r q c
                → own s.queues (memory s u).uses r y + cnt y (returned_by_step r given) ≡ own s.queues (memory s t).uses r y + cnt y []
            by true (same e) = let o = out_balance s q (state_of s t) somewhere.0 y x k.within in rw (e, here, b.mem) (simp counts (omega arith))
            by false (apart e) =
                let o = others_balance s r (state_of s t) some y q x e k.within in rw (there r e, b.mem) (simp counts (omega arith))

    pub step_at : StepAt s t fronts l (says_of (level l) (counted f) a)
    step_at =
        let room = (measured_fits t s m).room in
        let higher : (j : ℕ) → l < j → (frames s t j).op ≡ 0 = λ j h. frame_idle s t j (top j h) in
        let done =
        step_bridged s t room l f refl low running.0 higher k.op k.point somewhere q (state_of s t) k.within in
        record {
          table = done.0;
          is = done.1;
          bridged = done.2;
          keeps = took_from done.0 (stepped_kept s t done.0 _ m done.1) done.2;
          low = low;
          runs = running.0;
          highest = higher;
          moving = k;
          said = refl;
        }

  -- a step of a table in which all queues are sound
  pub step_taken : Outcome s t fronts
  unfolding step_sized step_served
  step_taken = by (serving s t s.levels) refl (served s t s.levels)
    where
      by : (v : Option Level) → serving s t s.levels ≡ v → Serves s t s.levels v → Outcome s t fronts
      by v e (nobody h) = idle (rw e) (λ j. frame_idle s t j (h j))
      by v e (serves l low run top) = took l _ (step_at l low run top)
