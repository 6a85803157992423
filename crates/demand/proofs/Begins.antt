-- An accepted begin: what its refusals did not find, and what it keeps of all queues.
use Rattle.std.specs.Prelude.{Some}
use Prim.Native.Nat.{ℕ, zero, suc, ◌+◌, ◌-◌, ◌≤◌, ◌<◌}
use mathlib.Core.Path.{◌≡◌, refl, sym, ap, ◌∙◌}
use mathlib.Core.Logic.{◌≢◌}
use mathlib.Core.Bool.{Bool, true, false, cond, ◌||◌}
use mathlib.Core.List.{List, [], ◌∷◌}
use native.Mathlib.Omega.{arith}
use lib.Dec.{ltb, eqb}
use borrow.Author.Tests.{not-false, ltb-true, ltb-false, eqb-true, eq-eqb}
use Rattle.words.specs.declared.Level.{Level}
use Rattle.words.specs.declared.Queue.{Queue}
use Rattle.words.specs.declared.Node.{Node}
use Rattle.words.specs.declared.Sizes.{Sizes}
use Rattle.words.specs.declared.Frame.{Frame}
use Rattle.words.specs.declared.Word.TheVariants.{Head, Use}
use Rattle.words.specs.Layout.{level, node, within, measured, has, rd, wr, frame_of, put_frame}
use Rattle.words.specs.Laws.{Bound, bound, within_low, within_high, measured_wr, measured_put, measured_fits, has_is}
use Rattle.answers.specs.Said.{Said, refused, says}
use Rattle.table.specs.Points.{E1, D1}
use Rattle.conditions.specs.declared.Sought.{Sought}
use Rattle.conditions.specs.declared.Sought.TheVariants.{Running, DequeueOn}
use Rattle.conditions.specs.Conditions.{sought, some, no_node, busy, in_use, dequeued}
use Rattle.begins.specs.Begin.{begun, unless, enqueue_why, enqueue_sized, enqueue_measured, enqueue_of, dequeue_why, dequeue_sized, dequeue_measured, dequeue_of}
use Rattle.begins.specs.Laws.{enqueues, dequeues}
use Rattle.lists.specs.Count.{Same, same, apart, same?, cnt, cnt_nil, counts}
use Rattle.lists.specs.Beginning.{begins_same}
use Rattle.state.specs.Mem.{Mem, put, upd}
use Rattle.state.specs.View.{memory, frames, state_of}
use Rattle.state.proofs.Seen.{look_rd, frame_is, frame_idle, memory_wr, frames_wr, memory_put, frames_put}
use Rattle.state.specs.Queues.{own}
use Rattle.invariant.proofs.Own.{own_begun}
use Rattle.demand.proofs.Apart.{own_put}
use Rattle.demand.proofs.World.{World, IdleFrom, enqueue_begun, dequeue_begun, world_enqueue, world_dequeue}
use Rattle.demand.proofs.Keeps.{Keeps}

-- ---- conditions that do not hold

pub none_of : (s : Sizes) (t : List ℕ) (w : Sought) (i n : ℕ) → some s t w i n ≡ false → (j : ℕ) → i ≤ j → j < i + n
    → sought w (frame_of s t (level j)) ≡ false
unfolding some
none_of s t w i zero h j a b = absurd (omega arith)
none_of s t w i (suc n) h j a b = by (sought w (frame_of s t (level i))) refl h (none_of s t w (i + 1) n) (eqb j i) (same? j i)
  where
    by : (x : Bool) → sought w (frame_of s t (level i)) ≡ x → (x || some s t w (i + 1) n) ≡ false
        → (some s t w (i + 1) n ≡ false → (j : ℕ) → i + 1 ≤ j → j < i + 1 + n → sought w (frame_of s t (level j)) ≡ false)
        → (c : Bool) → Same j i c → sought w (frame_of s t (level j)) ≡ false
    by true e h ih c z = cc
    by false e h ih true (same z) = rw z e
    by false e h ih false (apart z) = ih h j (omega arith) (omega arith)

pub none_sought : (s : Sizes) (t : List ℕ) (w : Sought) (i n : ℕ)
    → ((j : ℕ) → i ≤ j → j < i + n → sought w (frame_of s t (level j)) ≡ false) → some s t w i n ≡ false
unfolding some
none_sought s t w i zero h = refl
none_sought s t w i (suc n) h =
    rw (h i (omega arith) (omega arith), none_sought s t w (i + 1) n (λ j a b. h j (omega arith) (omega arith)))

not_running : (f : Frame) → sought Running f ≡ false → f.op ≡ 0
unfolding sought
not_running f h = eqb-true f.op 0 (not-false (eqb f.op 0) h)

not_dequeue : (q : Queue) (f : Frame) → sought (DequeueOn q) f ≡ false → f.op ≡ 2 → f.queue.0 ≢ q.0
unfolding sought
not_dequeue q f h e k = let z : ◌≡◌ {A = Bool} true false = simp (eq-eqb f.op 2 e, eq-eqb f.queue.0 q.0 k) at h in cc

-- ---- an accepted begin

accepted : (why : ℕ) (t new u : List ℕ) → unless why t new ≡ (says tt, u) → (why ≡ 0) × (new ≡ u)
unfolding unless
accepted why t new u = by (eqb why 0) (same? why 0)
  where
    by : (b : Bool) → Same why 0 b → ◌≡◌ {A = Said Unit × List ℕ} (cond b (says tt, new) (refused why, t)) (says tt, u) → (why ≡ 0) × (new ≡ u)
    by true (same e) h = (e, ap (λ (o : Said Unit × List ℕ). o.1) h)
    by false (apart e) h =
        let z : ◌≡◌ {A = Said Unit} (refused why) (says tt) = ap (λ (o : Said Unit × List ℕ). o.0) h in
        cc

-- what an accepted enqueue can rely on
pub record CanEnqueue (s : Sizes) (t : List ℕ) (l : Level) (q : Queue) (n : Node) (u : List ℕ) : Type 0 where
  pub low : l.0 < s.levels
  pub some_queue : 1 ≤ q.0
  pub queue_known : q.0 ≤ s.queues
  pub user : s.queues < n.0
  pub node_known : n.0 ≤ s.nodes
  pub idle : IdleFrom l.0 (state_of s t)
  pub unused : (memory s t).uses n.0 ≡ 0
  pub table : u ≡ wr s (put_frame s t l (begun 1 E1 q n)) (Use n) q.0
  pub mem_is : memory s u ≡ upd (memory s t) (Use n) q.0
  pub frames_are : frames s u ≡ put (frames s t) l.0 (begun 1 E1 q n)

pub record CanDequeue (s : Sizes) (t : List ℕ) (l : Level) (q : Queue) (u : List ℕ) : Type 0 where
  pub low : l.0 < s.levels
  pub some_queue : 1 ≤ q.0
  pub queue_known : q.0 ≤ s.queues
  pub idle : IdleFrom l.0 (state_of s t)
  pub only : (j : ℕ) → (frames s t j).op ≡ 2 → (frames s t j).queue.0 ≢ q.0
  pub table : u ≡ put_frame s t l (begun 2 D1 q (node 0))
  pub mem_is : memory s u ≡ memory s t
  pub frames_are : frames s u ≡ put (frames s t) l.0 (begun 2 D1 q (node 0))

module _ (s : Sizes) (t : List ℕ) (m : measured t ≡ Some s) (l : Level) where
  pub not_busy : busy s t l ≡ false → l.0 < s.levels → IdleFrom l.0 (state_of s t)
  unfolding busy
  not_busy h low j a =
      frame_idle s t j (λ b. not_running (frame_of s t (level j)) (none_of s t Running l.0 (s.levels - l.0) h j a (omega arith)))

  pub not_dequeued : (q : Queue) → dequeued s t l q ≡ false → l.0 ≤ s.levels → IdleFrom l.0 (state_of s t)
      → (j : ℕ) → (frames s t j).op ≡ 2 → (frames s t j).queue.0 ≢ q.0
  unfolding dequeued
  not_dequeued q h low idle j two = by (ltb j l.0) refl
    where
      by : (b : Bool) → ltb j l.0 ≡ b → (frames s t j).queue.0 ≢ q.0
      by true e =
          let k = ltb-true j l.0 e in
          let f = frame_is s t j (omega arith) in
          rw f (not_dequeue q (frame_of s t (level j)) (none_of s t (DequeueOn q) 0 l.0 h j (omega arith) (omega arith)) (rw f at two))
      by false e = absurd (omega (arith, idle j (ltb-false j l.0 e)))

  pub can_enqueue : (q : Queue) (n : Node) (u : List ℕ) → enqueue_of t l q n ≡ (says tt, u) → CanEnqueue s t l q n u
  unfolding enqueue_of enqueue_measured enqueue_sized no_node in_use Bound
  can_enqueue q n u h =
      let a = accepted (enqueue_why s t l q n) t (wr s (put_frame s t l (begun 1 E1 q n)) (Use n) q.0) u (rw m at h) in
      let c = enqueues s t l q n a.0 in
      let b = bound s (Head q) c.has_q in
      let user = not-false (within (s.queues + 1) s.nodes n.0) c.is_user in
      let above = within_low (s.queues + 1) s.nodes n.0 user in
      let real = within_high (s.queues + 1) s.nodes n.0 user in
      let here = has_is s (Use n) (omega (arith, above, real)) in
      let g = begun 1 E1 q n in
      let room = (measured_fits (put_frame s t l g) s (measured_put s t l g m)).room in
      record {
        low = c.has_l;
        some_queue = b.0;
        queue_known = b.1;
        user = omega (arith, above);
        node_known = real;
        idle = not_busy c.idle c.has_l;
        unused = look_rd s t (Use n) here ∙ eqb-true (rd s t (Use n)) 0 (not-false (eqb (rd s t (Use n)) 0) c.free);
        table = sym a.1;
        mem_is =
            rw (← a.1)
            (memory_wr s (put_frame s t l g) room (Use n) here q.0
            ∙ ap (λ (M : Mem). upd M (Use n) q.0) (memory_put s t (measured_fits t s m).room l g));
        frames_are =
            rw (← a.1)
            (frames_wr s (put_frame s t l g) room (Use n) here q.0 ∙ frames_put s t (measured_fits t s m).room l c.has_l g);
      }

  pub can_dequeue : (q : Queue) (u : List ℕ) → dequeue_of t l q ≡ (says tt, u) → CanDequeue s t l q u
  unfolding dequeue_of dequeue_measured dequeue_sized Bound
  can_dequeue q u h =
      let a = accepted (dequeue_why s t l q) t (put_frame s t l (begun 2 D1 q (node 0))) u (rw m at h) in
      let c = dequeues s t l q a.0 in
      let b = bound s (Head q) c.has_q in
      record {
        low = c.has_l;
        some_queue = b.0;
        queue_known = b.1;
        idle = not_busy c.idle c.has_l;
        only = not_dequeued q c.alone (omega (arith, c.has_l)) (not_busy c.idle c.has_l);
        table = sym a.1;
        mem_is = rw (← a.1) (memory_put s t (measured_fits t s m).room l (begun 2 D1 q (node 0)));
        frames_are = rw (← a.1) (frames_put s t (measured_fits t s m).room l c.has_l (begun 2 D1 q (node 0)));
      }

-- ---- what it keeps

module _ (s : Sizes) (t : List ℕ) (l : Level) (q : Queue) (u : List ℕ) where
  pub enqueue_state : (n : Node) → CanEnqueue s t l q n u → state_of s u ≡ enqueue_begun (state_of s t) l.0 q.0 n.0
  enqueue_state n c = λ i. record { mem = c.mem_is i; frames = c.frames_are i }

  pub dequeue_state : CanDequeue s t l q u → state_of s u ≡ dequeue_begun (state_of s t) l.0 q.0
  dequeue_state c = λ i. record { mem = c.mem_is i; frames = c.frames_are i }

module _ (s : Sizes) (t : List ℕ) (fronts : ℕ → List ℕ) (m : measured t ≡ Some s) (w : World s (state_of s t) fronts) (l : Level) where
  pub dequeue_kept : (q : Queue) (u : List ℕ) → dequeue_of t l q ≡ (says tt, u) → Keeps s t fronts (λ r. []) (λ r. []) u
  dequeue_kept q u h =
      record {
        sized = rw c.table (measured_put s t l (begun 2 D1 q (node 0)) m);
        fronts' = fronts;
        world =
            rw (dequeue_state s t l q u c)
            (world_dequeue s (state_of s t) fronts w l.0 q.0 c.low c.idle c.some_queue c.queue_known c.only);
        begins = λ r. begins_same (fronts r);
        balance = λ r some n. rw c.mem_is;
      }
    where
      c : CanDequeue s t l q u
      c = can_dequeue s t m l q u h

  pub enqueue_kept : (q : Queue) (n : Node) (u : List ℕ) → enqueue_of t l q n ≡ (says tt, u)
      → Keeps s t fronts (λ r. []) (λ r. cond (eqb q.0 r) (n.0 ∷ []) []) u
  unfolding Bound
  enqueue_kept q n u h =
      record {
        sized = rw c.table (measured_wr s v (Use n) q.0 (measured_put s t l (begun 1 E1 q n) m) here);
        fronts' = fronts;
        world =
            rw (enqueue_state s t l q u n c)
            (world_enqueue s (state_of s t) fronts w l.0 q.0 c.low c.idle c.some_queue c.queue_known n.0 c.user
            c.node_known c.unused);
        begins = λ r. begins_same (fronts r);
        balance = balance;
      }
    where
      c : CanEnqueue s t l q n u
      c = can_enqueue s t m l q n u h

      v : List ℕ
      v = put_frame s t l (begun 1 E1 q n)

      here : has s (Use n) ≡ true
      here = has_is s (Use n) (omega (arith, c.user, c.node_known))

      balance : (r : ℕ) → 1 ≤ r → (y : ℕ) → own s.queues (memory s u).uses r y + cnt y []
          ≡ own s.queues (memory s t).uses r y + cnt y (cond (eqb q.0 r) (n.0 ∷ []) [])
      balance r some y = rw c.mem_is (by (eqb q.0 r) (same? q.0 r))
        where
          by : (b : Bool) → Same q.0 r b → own s.queues (put (memory s t).uses n.0 q.0) r y + cnt y []
              ≡ own s.queues (memory s t).uses r y + cnt y (cond b (n.0 ∷ []) [])
          by true (same e) =
              let o = own_begun s.queues (memory s t).uses r n.0 some c.user c.unused y in rw e (omega (arith, cnt_nil y))
          by false (apart e) =
              let z = c.unused in
              let o = own_put s.queues (memory s t).uses r n.0 q.0 (λ y. omega (arith, z)) e y in
              simp counts (omega arith)
