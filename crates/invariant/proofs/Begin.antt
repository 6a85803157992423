-- A begin on the queue keeps the invariant, and nothing in front moves.
use Prim.Native.Nat.{ℕ, ◌+◌, ◌≤◌, ◌<◌}
use mathlib.Core.Path.{◌≡◌, refl}
use mathlib.Core.Logic.{◌≢◌, inl, inr}
use mathlib.Core.Bool.{Bool, true, false}
use mathlib.Core.List.{List, [], ◌∷◌}
use native.Mathlib.Omega.{arith}
use lib.Dec.{eqb}
use borrow.Author.Tests.{ne_eqb}
use Rattle.words.specs.declared.Sizes.{Sizes}
use Rattle.words.specs.declared.Frame.{Frame}
use Rattle.words.specs.declared.Word.TheVariants.{Use}
use Rattle.words.specs.Layout.{level, queue, node}
use Rattle.lists.specs.Count.{Same, same, apart, same?, cnt, cnt_cons, cnt_nil, counts}
use Rattle.state.specs.Mem.{mem, put, put_same, upd}
use Rattle.state.specs.Step.{State}
use Rattle.state.specs.Queues.{On, own}
use Rattle.table.specs.Points.{point_of, E1, D1}
use Rattle.table.specs.Laws.{point_is}
use Rattle.table.specs.Frames.{frame}
use Rattle.invariant.specs.Ghost.{loose, push, Listed}
use Rattle.invariant.specs.Facts.{is_loose, e1, d1, Works}
use Rattle.invariant.specs.Sound.{own_in, HereIn, Sound}
use Rattle.invariant.proofs.Keep.{upon'}
use Rattle.invariant.proofs.Own.{own_begun}
use Rattle.invariant.proofs.Levels.{each, same_frames, sink}

-- a frame that begins: op, point, queue and node, its other words 0
abbrev pub begins : ℕ → ℕ → ℕ → ℕ → Frame
begins op point q n = frame op point (queue q) (node n) (level 0) (node 0) (node 0) (node 0) (node 0) (level 0) 0

-- what both begins share: the frame g is put on the stack as a loose item
module _ (s : Sizes) (q : ℕ) (W : State) (front : List ℕ) (d : Sound s q W front) (l : ℕ) (low : l < s.levels)
    (idle : (j : ℕ) → l ≤ j → (W.frames j).op ≡ 0) where
  off : W.mem.lq l ≢ q
  off e = (d.registered l e).0 (idle l (omega arith))

  module _ (g : Frame) (uses : ℕ → ℕ) (ins : List ℕ) (works : Works q g)
      (here : HereIn s q W d.settled l g (point_of g.point) (loose ins []) d.stack d.done d.done)
      (more : (y : ℕ) → own s.queues uses q y ≡ cnt y ins + own_in s q W y)
      (nodes : (y : ℕ) → own s.queues uses q y ≡ 1 → (1 ≤ y) × (y ≤ s.nodes))
      (first : g.op ≡ 2 → (j : ℕ) → On q (W.frames j) → (W.frames j).op ≢ 2) where
    one : (i j : ℕ) → On q (put W.frames l g i) → On q (put W.frames l g j) → (put W.frames l g i).op ≡ 2
        → (put W.frames l g j).op ≡ 2 → i ≡ j
    one i j = each W.frames l
        (λ i f. On q f → On q (put W.frames l g j) → f.op ≡ 2 → (put W.frames l g j).op ≡ 2 → i ≡ j) g
        (λ a. each W.frames l (λ j f. On q f → g.op ≡ 2 → f.op ≡ 2 → l ≡ j) g (λ b c e. refl)
        (λ j n b c e. absurd (first c j b e)) j)
        (λ i n a. each W.frames l (λ j f. On q f → (W.frames i).op ≡ 2 → f.op ≡ 2 → i ≡ j) g
        (λ b c e. absurd (first e i a c)) (λ j n b c e. d.one i j a b c e) j) i

    begun : Sound s q (record {
      mem = mem W.mem.ln W.mem.lq W.mem.head W.mem.tail W.mem.next uses;
      frames = put W.frames l g;
    }) front
    begun = record {
      settled = d.settled;
      hot = d.hot;
      stack = push l (loose ins []) d.stack;
      done = d.done;
      pile = upon' low (rw (put_same W.frames l g) works) refl (rw (put_same W.frames l g) here)
          (same_frames W.frames g (omega arith) (sink idle d.pile));
      stand = record {
        hot = d.stand.hot;
        settled = d.stand.settled;
        all = λ y. simp counts (omega (arith, d.stand.all y, more y));
      };
      listed = each W.frames l (λ j f. On q f → Listed j (push l (loose ins []) d.stack)) g (λ o. inl refl)
          (λ j n o. inr (d.listed j o));
      registered = each W.frames l (λ j f. W.mem.lq j ≡ q → On q f) g (λ e. absurd (off e))
          (λ j n e. d.registered j e);
      one = one;
      nodes = nodes;
      low = d.low;
      high = d.high;
      front_is = d.front_is;
    }

pub sound_enqueue : (s : Sizes) (q : ℕ) (W : State) (front : List ℕ) → Sound s q W front → (l n : ℕ) → l < s.levels
    → ((j : ℕ) → l ≤ j → (W.frames j).op ≡ 0)
    → s.queues < n → n ≤ s.nodes → W.mem.uses n ≡ 0 → W.mem.next n ≡ 0
    → Sound s q (record { mem = upd W.mem (Use (node n)) q; frames = put W.frames l (begins 1 1 q n) }) front
sound_enqueue s q W front d l n low idle user small unused ends =
    begun s q W front d l low idle (begins 1 1 q n) (put W.mem.uses n q) (n ∷ [])
    (record { busy = omega arith; known = omega arith; queued = refl })
    (rw (point_is E1 1 refl) (is_loose (off s q W front d l low idle) (e1 ends)))
    (own_begun s.queues W.mem.uses q n d.low user unused) nodes (λ e. absurd (omega arith))
  where
    nodes : (y : ℕ) → own s.queues (put W.mem.uses n q) q y ≡ 1 → (1 ≤ y) × (y ≤ s.nodes)
    nodes y e = by (eqb y n) (same? y n)
      where
        by : (t : Bool) → Same y n t → (1 ≤ y) × (y ≤ s.nodes)
        by true (same k) = omega arith
        by false (apart k) = d.nodes y
            (let z : cnt y (n ∷ []) ≡ 0 = rw (cnt_cons, ne_eqb y n k) (omega (arith, cnt_nil y)) in
            omega (arith, own_begun s.queues W.mem.uses q n d.low user unused y))

pub sound_dequeue : (s : Sizes) (q : ℕ) (W : State) (front : List ℕ) → Sound s q W front → (l : ℕ) → l < s.levels
    → ((j : ℕ) → l ≤ j → (W.frames j).op ≡ 0)
    → ((j : ℕ) → (W.frames j).op ≡ 2 → (W.frames j).queue.0 ≢ q)
    → Sound s q (record { mem = W.mem; frames = put W.frames l (begins 2 31 q 0) }) front
sound_dequeue s q W front d l low idle alone =
    begun s q W front d l low idle (begins 2 31 q 0) W.mem.uses []
    (record { busy = omega arith; known = omega arith; queued = refl })
    (rw (point_is D1 31 refl) (is_loose (off s q W front d l low idle) (d1 refl))) (λ y. omega (arith, cnt_nil y)) d.nodes
    (λ e j o i. alone j i o.1)
