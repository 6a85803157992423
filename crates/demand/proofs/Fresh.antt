-- A fresh table is sound in every queue: each chain is its sentinel alone, and no node is a queue's but those.
use Rattle.std.specs.Prelude.{Some}
use Prim.Native.Nat.{ℕ, ◌≤◌}
use mathlib.Core.Path.{◌≡◌, refl, sym, ap, ◌∙◌}
use mathlib.Core.Bool.{Bool, true, false, cond, not}
use mathlib.Core.List.{List, [], ◌∷◌}
use native.Mathlib.Omega.{arith}
use lib.Dec.{ltb, eqb}
use lib.ListN.{length}
use borrow.Author.Tests.{ne_eqb, ltb-true, ltb-false}
use Rattle.words.specs.declared.Sizes.{Sizes}
use Rattle.words.specs.declared.Frame.{Frame}
use Rattle.words.specs.declared.Word.{Word}
use Rattle.words.specs.Layout.{level, limits, words, measured, has, rd}
use Rattle.words.specs.Laws.{Bound, measured_limits, has_is}
use Rattle.answers.specs.Said.{Said, refused, says}
use Rattle.fresh.specs.Fresh.{fresh_table, fresh_of}
use Rattle.fresh.specs.Laws.{fresh_word, fresh_measured, fresh_rd, fresh_frame}
use Rattle.lists.specs.Count.{hit, counts}
use Rattle.lists.specs.Beginning.{without, without_self}
use Rattle.chains.specs.Seg.{stop, link}
use Rattle.state.specs.View.{level_queue, head_of, tail_of, next_of, use_of, seen, memory, frames, state_of}
use Rattle.state.proofs.Seen.{frame_idle, uses_past}
use Rattle.state.specs.Queues.{own}
use Rattle.invariant.specs.Sound.{Sound, Chained}
use Rattle.invariant.proofs.Rest.{sound_start}
use Rattle.demand.proofs.World.{World}
use Rattle.demand.proofs.Bridge.{same_said, no_answer}

-- a fresh table that was accepted, as the theory sees it: zeros, but for head and tail of the queues
pub record Freshly (s : Sizes) (t : List ℕ) : Type 0 where
  pub sized : measured t ≡ Some s
  pub idle : (j : ℕ) → (frames s t j).op ≡ 0
  pub lq : (j : ℕ) → (memory s t).lq j ≡ 0
  pub next : (x : ℕ) → (memory s t).next x ≡ 0
  pub uses : (x : ℕ) → (memory s t).uses x ≡ 0
  pub head : (q : ℕ) → 1 ≤ q → q ≤ s.queues → (memory s t).head q ≡ q
  pub tail : (q : ℕ) → 1 ≤ q → q ≤ s.queues → (memory s t).tail q ≡ q

filled : (s : Sizes) (t : List ℕ) → limits s ≡ true → words s ≤ length t → Freshly s (fresh_table s t)
unfolding memory seen Bound
filled s t lim room =
    record {
      sized = fresh_measured s t lim room;
      idle = λ j. frame_idle s u j (λ low. ap (λ (f : Frame). f.op) (fresh_frame s t lim room (level j) low));
      lq = λ j. zero (level_queue j) refl;
      next = λ x. zero (next_of x) refl;
      uses = λ x. zero (use_of x) refl;
      head = λ q a b. rw (has_is s (head_of q) (a, b)) (fresh_rd s t lim room (head_of q) (has_is s (head_of q) (a, b)));
      tail = λ q a b. rw (has_is s (tail_of q) (a, b)) (fresh_rd s t lim room (tail_of q) (has_is s (tail_of q) (a, b)));
    }
  where
    u : List ℕ
    u = fresh_table s t

    zero : (w : Word) → fresh_word w ≡ 0 → seen s u w ≡ 0
    zero w e = by (has s w) refl
      where
        by : (b : Bool) → has s w ≡ b → cond b (rd s u w) 0 ≡ 0
        by true h = fresh_rd s t lim room w h ∙ e
        by false h = refl

pub freshly : (s : Sizes) (lent t : List ℕ) → fresh_of s lent ≡ (says tt, t) → Freshly s t
unfolding fresh_of
freshly s lent t = by (limits s) refl (ltb (length lent) (words s)) refl
  where
    by : (a : Bool) → limits s ≡ a → (b : Bool) → ltb (length lent) (words s) ≡ b
        → ◌≡◌ {A = Said Unit × List ℕ} (cond (not a) (refused 2, lent) (cond b (refused 1, lent) (says tt, fresh_table s lent))) (says tt, t)
        → Freshly s t
    by false l b r e = absurd (no_answer e)
    by true l true r e = absurd (no_answer e)
    by true l false r e = rw (sym (same_said e).1) (filled s lent l (ltb-false (length lent) (words s) r))

-- ---- its queues

module _ (s : Sizes) (t : List ℕ) (f : Freshly s t) where
  -- a queue's node is its sentinel alone
  pub fresh_own : (q : ℕ) → 1 ≤ q → q ≤ s.queues → (n : ℕ) → own s.queues (memory s t).uses q n ≡ hit (eqb n q)
  unfolding own
  fresh_own q a b n = by (ltb s.queues n) refl
    where
      by : (c : Bool) → ltb s.queues n ≡ c → cond c (hit (eqb ((memory s t).uses n) q)) (hit (eqb n q)) ≡ hit (eqb n q)
      by true e =
          let past = ltb-true s.queues n e in
          rw (f.uses n, ne_eqb 0 q (λ z. omega arith), ne_eqb n q (λ z. omega arith))
      by false e = refl

  pub fresh_world : World s (state_of s t) (λ q. [])
  unfolding without
  fresh_world =
      record {
        sound = sound;
        on_some = λ j run. absurd (run (f.idle j));
        free_ends = λ n h u. f.next n;
      }
    where
      chained : (q : ℕ) → 1 ≤ q → q ≤ s.queues → Chained s q (state_of s t) []
      chained q a b =
          record {
            nodes = q ∷ [];
            linked = link (f.head q a b) (stop (f.next q));
            ends = ([], rw (f.tail q a b));
            once = λ x. rw (fresh_own q a b x) (simp counts (omega arith));
            front_is = sym (without_self q []);
          }

      sound : (q : ℕ) → 1 ≤ q → q ≤ s.queues → Sound s q (state_of s t) []
      sound q a b =
          sound_start s q (state_of s t) [] a b (measured_limits t s f.sized).sentinels (λ j on. on.0 (f.idle j))
          (λ j e. omega (arith, f.lq j)) (uses_past s t) (chained q a b)
