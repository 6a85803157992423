-- A quiet moment: what the invariant of a quiet queue says of the words.
use Rattle.std.specs.Prelude.{Some}
use Prim.Native.Nat.{ℕ, ◌+◌, ◌≤◌, ◌<◌}
use mathlib.Core.Path.{◌≡◌, refl, sym, ap, ◌∙◌}
use mathlib.Core.Logic.{◌≢◌}
use mathlib.Core.Bool.{Bool, true, false, cond, not, ◌&&◌}
use mathlib.Core.List.{List, [], ◌∷◌, ◌++◌}
use native.Mathlib.Omega.{arith}
use lib.Dec.{ltb, eqb}
use lib.ListN.{length, drop}
use borrow.Author.Tests.{eq-eqb, ne_eqb, ltb-true, ltb-false, le-ltb}
use Rattle.words.specs.declared.Queue.{Queue}
use Rattle.words.specs.declared.Sizes.{Sizes}
use Rattle.words.specs.declared.Frame.{Frame}
use Rattle.words.specs.declared.Word.TheVariants.{Head, Tail}
use Rattle.words.specs.Layout.{level, within, measured, rd, frame_of}
use Rattle.words.specs.Laws.{Bound, within_low, within_high, within_is, has_is}
use Rattle.answers.specs.Said.{Said, refused, says}
use Rattle.conditions.specs.declared.Sought.TheVariants.{RunningOn}
use Rattle.conditions.specs.Conditions.{sought, no_queue, unquiet}
use Rattle.asks.specs.Quiet.{quiet_measured, quiet_of}
use Rattle.asks.specs.Listing.{nodes_from, nodes_of, listed, listing_sized, listing_measured, listing_of}
use Rattle.lists.specs.Count.{Same, same, apart, same?, cnt, cnt_nil, cnt_self}
use Rattle.lists.specs.Beginning.{without}
use Rattle.lists.proofs.Without.{cnt_without}
use Rattle.lists.proofs.Short.{once_short}
use Rattle.chains.specs.Seg.{Seg, stop, link}
use Rattle.state.specs.View.{memory, frames, state_of}
use Rattle.state.proofs.Seen.{look_rd, frame_is, frame_idle}
use Rattle.state.specs.Queues.{On, own}
use Rattle.invariant.proofs.Own.{own_le}
use Rattle.invariant.specs.Sound.{Sound, Chained}
use Rattle.invariant.proofs.Rest.{quiet as at_rest}
use Rattle.demand.proofs.World.{World}
use Rattle.demand.proofs.Bridge.{other_number}
use Rattle.demand.proofs.Begins.{none_of, none_sought}
use Rattle.demand.proofs.Quiet.{chain_is, along_is, first_is}
use Rattle.demand.proofs.Alone.{First}
use Rattle.demand.specs.History.{still_in}
use Rattle.demand.specs.Demand.{QuietAt, first_of}

-- ---- nobody is on a quiet queue

pub record Nobody (s : Sizes) (t : List ℕ) (q : Queue) : Type 0 where
  pub some_queue : 1 ≤ q.0
  pub queue_known : q.0 ≤ s.queues
  pub nobody : (j : ℕ) → ¬ On q.0 (frames s t j)

not_on : (q : Queue) (f : Frame) → sought (RunningOn q) f ≡ false → ¬ On q.0 f
unfolding sought
not_on q f h on = let z : ◌≡◌ {A = Bool} true false = simp (ne_eqb f.op 0 on.0, eq-eqb f.queue.0 q.0 on.1) at h in cc

nobody_on : (s : Sizes) (t : List ℕ) (q : Queue) → within 1 s.queues q.0 ≡ true → unquiet s t q ≡ false → Nobody s t q
unfolding unquiet
nobody_on s t q w u =
    record {
      some_queue = within_low 1 s.queues q.0 w;
      queue_known = within_high 1 s.queues q.0 w;
      nobody = λ j on. at j on (ltb j s.levels) refl;
    }
  where
    at : (j : ℕ) → On q.0 (frames s t j) → (c : Bool) → ltb j s.levels ≡ c → ⊥
    at j on true e =
        let low = ltb-true j s.levels e in
        not_on q (frame_of s t (level j)) (none_of s t (RunningOn q) 0 s.levels u j (omega arith) (omega arith)) (rw (frame_is s t j low) at on)
    at j on false e = let past = ltb-false j s.levels e in on.0 (frame_idle s t j (λ low. absurd (omega arith)))

-- the two tests of the quiet call
tested : (s : Sizes) (t : List ℕ) (q : Queue) → measured t ≡ Some s → QuietAt t q
    → (within 1 s.queues q.0 ≡ true) × (unquiet s t q ≡ false)
unfolding quiet_of quiet_measured no_queue
tested s t q m h = by (within 1 s.queues q.0) (unquiet s t q) (rw m at h)
  where
    by : (a b : Bool) → ◌≡◌ {A = Said Bool} (cond (not a) (refused 4) (says (not b))) (says true) → (a ≡ true) × (b ≡ false)
    by true false e = (refl, refl)
    by true true e = cc
    by false b e = cc

pub quietly : (s : Sizes) (t : List ℕ) (q : Queue) → measured t ≡ Some s → QuietAt t q → Nobody s t q
quietly s t q m h = let b = tested s t q m h in nobody_on s t q b.0 b.1

-- where nobody is on the queue, the quiet call says so
not_sought : (q : Queue) (f : Frame) → ¬ On q.0 f → sought (RunningOn q) f ≡ false
unfolding sought
not_sought q f h = by (eqb f.op 0) (same? f.op 0) (eqb f.queue.0 q.0) (same? f.queue.0 q.0)
  where
    by : (a : Bool) → Same f.op 0 a → (b : Bool) → Same f.queue.0 q.0 b → not a && b ≡ false
    by true (same e) b k = refl
    by false (apart e) true (same k) = absurd (h (e, k))
    by false (apart e) false (apart k) = refl

pub quiet_then : (s : Sizes) (t : List ℕ) (q : Queue) → measured t ≡ Some s → Nobody s t q → QuietAt t q
unfolding quiet_of quiet_measured no_queue unquiet
quiet_then s t q m nb =
    rw (m, within_is 1 s.queues q.0 nb.some_queue nb.queue_known, none_sought s t (RunningOn q) 0 s.levels off)
  where
    off : (j : ℕ) → 0 ≤ j → j < 0 + s.levels → sought (RunningOn q) (frame_of s t (level j)) ≡ false
    off j from low = not_sought q (frame_of s t (level j)) (rw (frame_is s t j (omega arith)) at (nb.nobody j))

-- ---- the nodes of a queue

-- the sentinel is always its queue's
pub own_sentinel : (Q : ℕ) (u : ℕ → ℕ) (q : ℕ) → q ≤ Q → own Q u q q ≡ 1
unfolding own
own_sentinel Q u q h = rw (le-ltb Q q h, eq-eqb q q refl)

-- a chain with a node in it starts at a node
starts : {f : ℕ → ℕ} {h : ℕ} {xs : List ℕ} (q : ℕ) → Seg f h xs 0 → 0 < cnt q xs → ((x : ℕ) → 0 < cnt x xs → 1 ≤ x) → h ≢ 0
starts q (stop e) held real z = omega (arith, cnt_nil q)
starts q (link {x = x} {xs = xs} e r) held real z = omega (arith, real x (cnt_self x xs))

-- ---- the quiet moment

module _ (s : Sizes) (t : List ℕ) (fronts : ℕ → List ℕ) (m : measured t ≡ Some s) (w : World s (state_of s t) fronts) (q : Queue)
    (quiet : Nobody s t q) where
  sound : Sound s q.0 (state_of s t) (fronts q.0)
  sound = w.sound q.0 quiet.some_queue quiet.queue_known

  owned_real : (x : ℕ) → 0 < own s.queues (memory s t).uses q.0 x → (1 ≤ x) × (x ≤ s.nodes)
  owned_real x h = let o = own_le s.queues (memory s t).uses q.0 x in sound.nodes x (omega arith)

  c : Chained s q.0 (state_of s t) (fronts q.0)
  c = at_rest s q.0 (state_of s t) (fronts q.0) sound quiet.nobody

  known : (x : ℕ) → 0 < cnt x c.nodes → (1 ≤ x) × (x ≤ s.nodes)
  known x h = owned_real x (rw (c.once x) at h)

  once : (x : ℕ) → cnt x c.nodes ≤ 1
  once x = rw (c.once x) (own_le s.queues (memory s t).uses q.0 x)

  short : length c.nodes ≤ s.nodes
  short = once_short s.nodes c.nodes once known

  head_is : rd s t (Head q) ≡ (memory s t).head q.0
  unfolding Bound
  head_is = sym (look_rd s t (Head q) (has_is s (Head q) (quiet.some_queue, quiet.queue_known)))

  tail_is : rd s t (Tail q) ≡ (memory s t).tail q.0
  unfolding Bound
  tail_is = sym (look_rd s t (Tail q) (has_is s (Tail q) (quiet.some_queue, quiet.queue_known)))

  still_nodes : still_in s t q ≡ without q.0 c.nodes
  unfolding still_in
  still_nodes =
      rw (
        head_is,
        tail_is,
        along_is s t q.0 s.nodes ((memory s t).head q.0) ((memory s t).tail q.0) c.nodes c.linked short known c.ends (once ((memory s t).tail q.0)),
      )

  -- what is still in the queue is what is frozen
  pub still_front : still_in s t q ≡ fronts q.0
  still_front = still_nodes ∙ sym c.front_is

  -- each node of the queue but its sentinel, once
  pub still_once : (n : ℕ) → cnt n (still_in s t q) ≡ cond (eqb n q.0) 0 (own s.queues (memory s t).uses q.0 n)
  still_once n = ap (cnt n) still_nodes ∙ cnt_without n q.0 c.nodes ∙ ap (cond (eqb n q.0) 0) (c.once n)

  pub still_first : First (memory s t) q.0 (first_of (still_in s t q))
  still_first =
      rw still_nodes
      (first_is (memory s t) q.0 c.nodes c.linked c.ends once (λ x h. (known x h).0)
      (c.once q.0 ∙ own_sentinel s.queues (memory s t).uses q.0 quiet.queue_known))

  -- no node is numbered 0
  pub still_none : first_of (still_in s t q) ≡ 0 → still_in s t q ≡ []
  still_none = by (still_in s t q) (λ x h. real x (eqb x q.0) (rw (still_once x) at h))
    where
      real : (x : ℕ) (b : Bool) → 0 < cond b 0 (own s.queues (memory s t).uses q.0 x) → 1 ≤ x
      real x true h = absurd (omega arith)
      real x false h = (owned_real x h).0

      by : (ns : List ℕ) → ((x : ℕ) → 0 < cnt x ns → 1 ≤ x) → first_of ns ≡ 0 → ns ≡ []
      by [] h e = refl
      by (n ∷ ns) h e = absurd (omega (arith, h n (cnt_self n ns)))

  pub off : (j : ℕ) → (memory s t).lq j ≢ q.0
  off j e =
      quiet.nobody j
      (sound.registered j e)

  -- the listing call
  nodes_are : nodes_of s t q ≡ Some (still_in s t q)
  unfolding nodes_from
  nodes_are =
      let held = c.once q.0 ∙ own_sentinel s.queues (memory s t).uses q.0 quiet.queue_known in
      let real = starts q.0 c.linked (omega arith) (λ x k. (known x k).0) in
      rw (
        head_is,
        ne_eqb ((memory s t).head q.0) 0 real,
        chain_is s t q.0 s.nodes ((memory s t).head q.0) c.nodes c.linked short known,
        still_nodes,
      )

  pub listing_is : QuietAt t q → (room : List ℕ) → length (still_in s t q) ≤ length room
      → listing_of t q room ≡ (says (length (still_in s t q)), still_in s t q ++ drop (length (still_in s t q)) room)
  unfolding listing_of listing_measured listing_sized listed no_queue
  listing_is still room h =
      let b = tested s t q m still in
      rw (m, b.0, b.1, nodes_are, le-ltb (length room) (length (still_in s t q)) h)

  nodes_listed : (room : List ℕ) → (listed (nodes_of s t q) room).0 ≢ refused 10
  unfolding listed
  nodes_listed room = rw nodes_are (by (ltb (length room) (length (still_in s t q))))
    where
      by : (b : Bool) → ◌≢◌ {A = Said ℕ} (cond {A = Said ℕ × List ℕ} b (refused 12, room) (says (length (still_in s t q)), still_in s t q ++ drop (length (still_in s t q)) room)).0 (refused 10)
      by true e = other_number e (omega arith)
      by false e = cc

-- a listing is never refused with 10
pub listing_unharmed : (s : Sizes) (t : List ℕ) (fronts : ℕ → List ℕ) → measured t ≡ Some s → World s (state_of s t) fronts
    → (q : Queue) (room : List ℕ) → (listing_of t q room).0 ≢ refused 10
unfolding listing_of listing_measured listing_sized no_queue
listing_unharmed s t fronts m w q room = rw m (by (within 1 s.queues q.0) refl (unquiet s t q) refl)
  where
    by : (a : Bool) → within 1 s.queues q.0 ≡ a → (b : Bool) → unquiet s t q ≡ b
        → ◌≢◌ {A = Said ℕ} (cond {A = Said ℕ × List ℕ} (not a) (refused 4, room) (cond b (refused 11, room) (listed (nodes_of s t q) room))).0 (refused 10)
    by false a b u e = other_number e (omega arith)
    by true a true u e = other_number e (omega arith)
    by true a false u e = nodes_listed s t fronts m w q (nobody_on s t q a u) room e
