-- Nothing of a queue moved: its invariant stands, whatever other queues' frames, nodes and levels did.
use Prim.Native.Nat.{ℕ, ◌+◌, ◌<◌}
use mathlib.Core.Path.{◌≡◌, sym, ◌∙◌}
use mathlib.Core.Logic.{◌≢◌}
use mathlib.Core.List.{List, [], ◌++◌, append-nil}
use native.Mathlib.Omega.{arith}
use Rattle.words.specs.declared.Sizes.{Sizes}
use Rattle.words.specs.declared.Frame.{Frame}
use Rattle.lists.specs.Count.{cnt, counts}
use Rattle.state.specs.Step.{State}
use Rattle.state.specs.Queues.{On, Apart, Alike, still, others}
use Rattle.chains.proofs.Links.{seg_same}
use Rattle.invariant.specs.Ghost.{lists, flight}
use Rattle.invariant.specs.Facts.{Works}
use Rattle.invariant.specs.Sound.{view, Sound}
use Rattle.invariant.proofs.Keep.{keep, keep_hot, the_same}
use Rattle.invariant.proofs.Own.{own_le}

module _ (s : Sizes) (q : ℕ) (U W : State) (a : Apart s q U W) where
  -- a level with a frame on the queue, or registered with it, stood still
  pub record Still (j : ℕ) : Type 0 where
    pub frame : W.frames j ≡ U.frames j
    pub ln : W.mem.ln j ≡ U.mem.ln j
    pub lq : W.mem.lq j ≡ U.mem.lq j

  still_on : (j : ℕ) → On q (U.frames j) → Still j
  still_on j o = by (a.level j)
    where
      by : Alike q U W j → Still j
      by (still f n l) = record { frame = f; ln = n; lq = l }
      by (others x y u w) = absurd (x o)

  still_then : (j : ℕ) → On q (W.frames j) → Still j
  still_then j o = by (a.level j)
    where
      by : Alike q U W j → Still j
      by (still f n l) = record { frame = f; ln = n; lq = l }
      by (others x y u w) = absurd (y o)

  stays_off : (j : ℕ) → U.mem.lq j ≢ q → W.mem.lq j ≢ q
  stays_off j h = by (a.level j)
    where
      by : Alike q U W j → W.mem.lq j ≢ q
      by (still f n l) = rw l h
      by (others x y u w) = w

  pub sound_apart : (front : List ℕ) → Sound s q U front → Sound s q W front
  sound_apart front d = record {
    settled = d.settled;
    hot = d.hot;
    stack = d.stack;
    done = d.done;
    pile = keep (view q U.mem d.settled) (view q W.mem d.settled) U.frames W.frames s.levels
        (lists d.stack ++ flight d.stack) (omega arith)
        (λ j m w. (still_on j (on w)).frame) (λ j m w. (still_on j (on w)).ln)
        (record {
          shows = λ j m r. (still_on j (d.registered j r)).ln;
          stays = λ j m r. (still_on j (d.registered j r)).lq ∙ r;
          stays_off = λ j m r. stays_off j r;
        })
        (λ y (m : 0 < cnt y (lists d.stack ++ flight d.stack)). same y (omega (arith, simp counts at m)))
        (λ j m w. the_same a.head [] (sym (append-nil d.settled))
        (λ y (r : 0 < cnt y d.settled). same y (omega arith))) (omega arith) (λ y. simp counts (omega arith))
        (λ r. a.tail) d.pile;
    stand = rw (a.head, a.tail) (record {
      hot = keep_hot (λ y (r : 0 < cnt y d.hot). same y (omega arith)) d.stand.hot;
      settled = seg_same (λ y (r : 0 < cnt y d.settled). same y (omega arith)) d.stand.settled;
      all = λ y. rw (a.owns y) (d.stand.all y);
    });
    listed = λ j o. d.listed j (rw (still_then j o).frame at o);
    registered = λ j e. registered j e (a.level j);
    one = λ i j x y u w. let f = (still_then i x).frame in let g = (still_then j y).frame in
        d.one i j (rw f at x) (rw g at y) (rw f at u) (rw g at w);
    nodes = λ y e. d.nodes y (sym (a.owns y) ∙ e);
    low = d.low;
    high = d.high;
    front_is = rw a.tail d.front_is;
  }
    where
      on : {f : Frame} → Works q f → On q f
      on {f} w = ((λ (z : f.op ≡ 0). omega (arith, w)), w.queued)

      registered : (j : ℕ) → W.mem.lq j ≡ q → Alike q U W j → On q (W.frames j)
      registered j e (still f n l) = rw f (d.registered j (sym l ∙ e))
      registered j e (others x y u w) = absurd (w e)

      -- a node that stands in some list is the queue's, so its link stood still
      same : (y : ℕ) → 0 < cnt y d.settled + cnt y d.hot + cnt y (lists d.stack) + cnt y (flight d.stack)
          → W.mem.next y ≡ U.mem.next y
      same y h = a.next y (omega (arith, d.stand.all y, own_le s.queues U.mem.uses q y))
