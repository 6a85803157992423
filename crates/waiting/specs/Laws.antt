-- What the proofs of the call cite: dequeues that are run in pieces, and a copy on which they can begin.
use Prim.Native.Nat.{ℕ, zero, suc, ◌+◌, ◌-◌, ◌*◌, ◌≤◌, ◌<◌}
use Rattle.std.specs.Prelude.{◌≡◌, ◌≢◌, Bool, length, eqb, ltb, Some}
use Rattle.std.proofs.Math.Path.{refl, ap}
use Rattle.std.proofs.Common.{sym, ◌∙◌, mul-le-mul}
use mathlib.Core.List.{List}
use Rattle.std.proofs.Math.Bool.{true, false, cond}
use native.Mathlib.Omega.{arith}
use borrow.Author.Tests.{eq-eqb, ne_eqb, ltb-false, lt-leb}
use Rattle.words.specs.declared.Level.{Level}
use Rattle.words.specs.declared.Queue.{Queue}
use Rattle.words.specs.declared.Sizes.{Sizes}
use Rattle.words.specs.declared.Frame.{Frame}
use Rattle.words.specs.Layout.{level, node, words, frame_of, put_frame}
use Rattle.words.specs.Inner.{Small}
use Rattle.words.specs.Laws.{Limits, measured_limits, measured_fits, fits_length, frame_same, frame_other, put_length}
use Rattle.words.specs.Copy.{taller, raised}
use Rattle.words.specs.Copies.{raised_frame, raised_idle, raised_length}
use Rattle.answers.specs.declared.End.{End}
use Rattle.answers.specs.Said.{Said, refused, says, going_on, ended, Run, after, an_end, spent, nothing_runs, refusal_10}
use Rattle.table.specs.Points.{D1}
use Rattle.steps.specs.Step.{Out, serving, step_sized}
use Rattle.steps.specs.Run.{ran_on, run_from}
use Rattle.steps.proofs.Aside.{Aside, RanAside, ran_aside}
use Rattle.conditions.specs.declared.Sought.TheVariants.{DequeueOn}
use Rattle.conditions.specs.Conditions.{sought, some, no_level, no_queue, busy, dequeued}
use Rattle.conditions.specs.Laws.{some_alike}
use Rattle.begins.specs.Begin.{begun, unless, dequeue_why, dequeue_sized}
use Rattle.waiting.specs.Waiting.{dequeue_at, drain_on, drained, drained_at, drain_steps}
use Rattle.waiting.specs.Inner.{Ready, Alone, Runs, piece}

-- ---- run by run

-- what is drained with all these steps, of which a run took some and gave this
unfoldable drained_by : Sizes → Queue → Level → ℕ → ℕ → Said Run × List ℕ → Said ℕ
drained_by s q l all n (refused r, u) = refused 10
drained_by s q l all n (says (after k (an_end e)), u) =
    cond (eqb e.node.0 0) (says n) (drained s q l (all - k) (n + 1) (dequeue_at s q l u))
drained_by s q l all n (says (after k spent), u) = drained s q l (all - k) n u
drained_by s q l all n (says (after k nothing_runs), u) = refused 10
drained_by s q l all n (says (after k refusal_10), u) = refused 10

module _ (s : Sizes) (q : Queue) (l : Level) where
  -- after k of the steps of the run
  run_drains : (left rest n k : ℕ) (t : List ℕ)
      → drained s q l (left + rest) n t ≡ drained_by s q l (k + (left + rest)) n (run_from s left k t)
  unfolding run_from ran_on drained_by drained drain_on
  run_drains zero rest n k t =
      let e : zero + rest ≡ k + (zero + rest) - k = omega arith in ap (λ (i : ℕ). drained s q l i n t) e
  run_drains (suc left) rest n k t =
      let z : suc left + rest ≡ suc (left + rest) = omega arith in
      rw z (by (step_sized s t) (run_drains left rest n (k + 1)))
    where
      by : (x : Out)
          → ((u : List ℕ) → drained s q l (left + rest) n u ≡ drained_by s q l (k + 1 + (left + rest)) n (run_from s left (k + 1) u))
          → drain_on s q l (drained s q l (left + rest)) n x.0 x.1
          ≡ drained_by s q l (k + suc (left + rest)) n (ran_on k (run_from s left) x.0 x.1)
      by (says going_on, u) ih =
          let e : k + 1 + (left + rest) ≡ k + suc (left + rest) = omega arith in rw (← e) (ih u)
      by (says (ended d), u) ih =
          let e : left + rest ≡ k + suc (left + rest) - (k + 1) = omega arith in
          ap (λ (i : ℕ). cond (eqb d.node.0 0) (says n) (drained s q l i (n + 1) (dequeue_at s q l u))) e
      by (refused r, u) ih = why (eqb r 9)
        where
          why : (b : Bool)
              → refused 10 ≡ drained_by s q l (k + suc (left + rest)) n (says (after k (cond b nothing_runs refusal_10)), u)
          why true = refl
          why false = refl

  -- a run of some of the steps that are left
  drains_on : (some left n : ℕ) (t u : List ℕ) (x : Said Run) → some ≤ left → run_from s some 0 t ≡ (x, u)
      → drained s q l left n t ≡ drained_by s q l left n (x, u)
  drains_on some left n t u x low e =
      let a : left ≡ some + (left - some) = omega arith in
      let b : zero + (some + (left - some)) ≡ left = omega arith in
      ap (λ (i : ℕ). drained s q l i n t) a
      ∙ run_drains some (left - some) n zero t
      ∙ ap (λ (i : ℕ). drained_by s q l i n (run_from s some zero t)) b
      ∙ ap (drained_by s q l left n) e

  -- by what the run says
  module _ (some left n : ℕ) (t u : List ℕ) (low : some ≤ left) where
    pub drains_empty : (k : ℕ) (e : End) → run_from s some 0 t ≡ (says (after k (an_end e)), u) → e.node.0 ≡ 0
        → drained s q l left n t ≡ says n
    unfolding drained_by
    drains_empty k e ran none = drains_on some left n t u _ low ran ∙ rw (eq-eqb e.node.0 0 none) refl

    pub drains_more : (k : ℕ) (e : End) (v : List ℕ) → run_from s some 0 t ≡ (says (after k (an_end e)), u) → e.node.0 ≢ 0
        → dequeue_sized s u l q ≡ (says tt, v) → drained s q l left n t ≡ drained s q l (left - k) (n + 1) v
    unfolding drained_by
    drains_more k e v ran node begun =
        let at : dequeue_at s q l u ≡ v = ap (λ (x : Said Unit × List ℕ). x.1) begun in
        drains_on some left n t u _ low ran ∙ rw (ne_eqb e.node.0 0 node) (ap (drained s q l (left - k) (n + 1)) at)

    pub drains_spent : (k : ℕ) → run_from s some 0 t ≡ (says (after k spent), u) → drained s q l left n t ≡ drained s q l (left - k) n u
    unfolding drained_by
    drains_spent k ran = drains_on some left n t u _ low ran

    pub drains_idle : (k : ℕ) → run_from s some 0 t ≡ (says (after k nothing_runs), u) → drained s q l left n t ≡ refused 10
    unfolding drained_by
    drains_idle k ran = drains_on some left n t u _ low ran

    pub drains_damaged : (k : ℕ) → run_from s some 0 t ≡ (says (after k refusal_10), u) → drained s q l left n t ≡ refused 10
    unfolding drained_by
    drains_damaged k ran = drains_on some left n t u _ low ran

    pub drains_refused : (r : ℕ) → run_from s some 0 t ≡ (refused r, u) → drained s q l left n t ≡ refused 10
    unfolding drained_by
    drains_refused r ran = drains_on some left n t u _ low ran

  pub drains_none : (left n : ℕ) (t : List ℕ) → left ≤ 0 → drained s q l left n t ≡ refused 10
  unfolding drained
  drains_none zero n t h = refl
  drains_none (suc left) n t h = absurd (omega arith)

pub piece_is : (left r : ℕ) → 0 < left → r ≡ piece left → (1 ≤ r) × (r ≤ left)
unfolding piece
piece_is left r some = by (ltb left 65535) refl
  where
    by : (b : Bool) → ltb left 65535 ≡ b → r ≡ cond b left 65535 → (1 ≤ r) × (r ≤ left)
    by true e is = (omega arith, omega arith)
    by false e is = let high = ltb-false left 65535 e in (omega arith, omega arith)

-- ---- where a dequeue can begin

module _ {s : Sizes} {t : List ℕ} {l : Level} {q : Queue} (a : Alone s t l q) where
  low : l.0 < s.levels
  low = omega (arith, a.top)

  pub alone_begins : (frame_of s t l).op ≡ 0 → dequeue_why s t l q ≡ 0
  unfolding dequeue_why no_level busy some sought
  alone_begins idle =
      let one : s.levels - l.0 ≡ suc zero = omega (arith, a.top) in
      let high : no_level s l ≡ false = lt-leb s.levels l.0 low in
      rw (high, a.known, a.alone, one, eq-eqb (frame_of s t l).op 0 idle) refl

  -- other levels' frames stay
  alone_kept : (u : List ℕ) → Aside s l t u → Alone s u l q
  unfolding dequeued
  alone_kept u b =
      record {
        fits = fits_length s t u b.long a.fits;
        top = a.top;
        known = a.known;
        alone = some_alike s s t u (DequeueOn q) 0 l.0
            (λ k _ h. ap (sought (DequeueOn q)) (b.others (level k) (λ e. omega arith))) ∙ a.alone;
      }

  put_aside : (f : Frame) → Aside s l t (put_frame s t l f)
  put_aside f = record { long = put_length s t l f; others = λ k ne. frame_other s t l f k ne }

  -- the highest level is served once it runs
  top_serves : (f : Frame) → f.op ≢ 0 → serving s (put_frame s t l f) s.levels ≡ Some l
  unfolding serving
  top_serves f runs =
      let one : s.levels ≡ suc l.0 = omega (arith, a.top) in
      let put = frame_same s t l f a.fits.room low in
      ap (serving s (put_frame s t l f)) one ∙ rw (put, ne_eqb f.op 0 runs) refl

  pub begun_runs : (u : List ℕ) → (frame_of s t l).op ≡ 0 → dequeue_sized s t l q ≡ (says tt, u) → Runs s u l q
  unfolding dequeue_sized unless
  begun_runs u idle e =
      let f = begun 2 D1 q (node 0) in
      let put : dequeue_sized s t l q ≡ (says tt, put_frame s t l f) = rw (alone_begins idle) refl in
      let at : put_frame s t l f ≡ u = ap (λ (x : Said Unit × List ℕ). x.1) (sym put ∙ e) in
      let runs : Runs s (put_frame s t l f) l q =
      record { alone = alone_kept (put_frame s t l f) (put_aside f); serves = top_serves f (λ z. omega arith) } in
      rw at at runs

-- what is drained from there on
pub begun_drains : (s : Sizes) (q : Queue) (l : Level) (left : ℕ) (t u : List ℕ) → dequeue_sized s t l q ≡ (says tt, u)
    → drained_at s q l left t ≡ drained s q l left 0 u
begun_drains s q l left t u e = ap (λ (x : Said Unit × List ℕ). drained s q l left 0 x.1) e

-- ---- what a run leaves

module _ {s : Sizes} {t : List ℕ} {l : Level} {q : Queue} (r : Runs s t l q) (budget : ℕ) (u : List ℕ) where
  ran : (x : Said Run) → run_from s budget 0 t ≡ (x, u) → RanAside s l t (x, u)
  ran x e = ran_aside s l budget t u x r.alone.fits.room r.serves e

  pub ran_ended : (k : ℕ) (d : End) → run_from s budget 0 t ≡ (says (after k (an_end d)), u)
      → Alone s u l q × ((frame_of s u l).op ≡ 0)
  ran_ended k d e = let left = ran _ e in (alone_kept r.alone u left.aside, left.own)

  pub ran_spent : (k : ℕ) → run_from s budget 0 t ≡ (says (after k spent), u) → Runs s u l q
  ran_spent k e = let left = ran _ e in record { alone = alone_kept r.alone u left.aside; serves = left.own }

-- ---- the copy

module _ (s : Sizes) (t : List ℕ) (q : Queue) (r : Ready s t q) where
  lim : Limits s
  lim = measured_limits t s r.sized

  room : words s ≤ length t
  room = (measured_fits t s r.sized).room

  pub ready_small : Small s
  ready_small = record { levels = omega (arith, lim); queues = omega (arith, lim); nodes = omega (arith, lim) }

  pub taller_small : Small (taller s)
  taller_small = record { levels = omega (arith, lim); queues = omega (arith, lim); nodes = omega (arith, lim) }

  -- it has room in the array for it
  pub taller_words : words (taller s) ≤ 2289
  taller_words = omega (arith, lim)

  pub raised_alone : Alone (taller s) (raised s t) (level s.levels) q
  unfolding dequeued no_queue
  raised_alone =
      let long = raised_length s t room in
      let tall = taller_small in
      record {
        fits = record { room = omega (arith, long); levels = tall.levels; queues = tall.queues; nodes = tall.nodes };
        top = omega arith;
        known = r.known;
        alone = some_alike s (taller s) t (raised s t) (DequeueOn q) 0 s.levels
            (λ k _ h. ap (sought (DequeueOn q)) (raised_frame s t room k (omega arith))) ∙ r.free;
      }

  pub raised_rests : (frame_of (taller s) (raised s t) (level s.levels)).op ≡ 0
  raised_rests = ap (λ (f : Frame). f.op) (raised_idle s t room)

-- ---- the steps of all dequeues

pub each_few : (s : Sizes) → s.levels ≤ 16 → s.nodes ≤ 1024 → (s.levels + 3) * (s.nodes + 7) ≤ 19589
each_few s a b =
    let l : s.levels + 3 ≤ 19 = omega arith in
    let n : s.nodes + 7 ≤ 1031 = omega arith in
    mul-le-mul l n

pub all_few : (s : Sizes) → s.levels ≤ 16 → s.nodes ≤ 1024 → drain_steps s ≤ 20078725
all_few s a b = let n : s.nodes + 1 ≤ 1025 = omega arith in mul-le-mul (each_few s a b) n
