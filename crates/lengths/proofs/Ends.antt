-- An operation that ends was begun: a step that ends one leaves one less running, a begin at most one more, and a fresh table has none.
use Prim.Native.Nat.{ℕ, zero, suc, ◌+◌, ◌≤◌, ◌<◌}
use Rattle.std.specs.Prelude.{◌≡◌, ◌≢◌, List, Bool, cond, length, eqb, Option, Some, None}
use Rattle.std.proofs.Math.Path.{refl, ap}
use Rattle.std.proofs.Common.{sym, ◌∙◌, zero-add, eqb-true, ne_eqb}
use Rattle.std.proofs.Math.Bool.{true, false}
use native.Mathlib.Omega.{arith}
use Rattle.words.specs.declared.Level.{Level}
use Rattle.words.specs.declared.Queue.{Queue}
use Rattle.words.specs.declared.Node.{Node}
use Rattle.words.specs.declared.Sizes.{Sizes}
use Rattle.words.specs.declared.Frame.{Frame}
use Rattle.words.specs.declared.Word.TheVariants.{Next, Use}
use Rattle.words.specs.Layout.{level, node, limits, words, measured, has, rd, wr, frame_of, put_frame, no_frame}
use Rattle.words.specs.Laws.{measured_fits, measured_wr, measured_put, has_use, wr_length, frame_wr, frame_same, frame_other}
use Rattle.answers.specs.Said.{Said, refused, says}
use Rattle.lists.specs.Count.{Same, same, apart, same?}
use Rattle.table.specs.Points.{E1, D1, point_of}
use Rattle.table.specs.Frames.{counted}
use Rattle.table.specs.Table.{Row, loads, stores, frees, nothing, row}
use Rattle.table.specs.declared.After.{After}
use Rattle.table.specs.declared.After.TheVariants.{Go, Done}
use Rattle.steps.specs.Step.{Out, serving, sound, settled, performed, step_frame, step_served, step_sized, step_measured, step_of}
use Rattle.steps.proofs.Laws.{serving_below, serving_runs}
use Rattle.steps.specs.Keeping.{kind, kind_after, kind_of, kind_kept}
use Rattle.begins.specs.Begin.{
  begun,
  unless,
  enqueue_why,
  enqueue_sized,
  enqueue_measured,
  enqueue_of,
  dequeue_why,
  dequeue_sized,
  dequeue_measured,
  dequeue_of,
}
use Rattle.begins.specs.Laws.{Enqueues, enqueues, dequeues}
use Rattle.fresh.specs.Fresh.{fresh_table}
use Rattle.fresh.specs.Laws.{fresh_measured, fresh_frame}
use Rattle.steps.proofs.Singly.{step_kept}
use Rattle.lengths.specs.Running.{active, running_below, running_measured, running, ends_in}

-- ---- one frame

active_op : (f g : Frame) → f.op ≡ g.op → active f ≡ active g
unfolding active
active_op f g e = rw e

active_one : (f : Frame) → f.op ≢ 0 → active f ≡ 1
unfolding active
active_one f h = rw (ne_eqb f.op 0 h)

active_most : (f : Frame) → active f ≤ 1
unfolding active
active_most f = by (eqb f.op 0)
  where
    by : (b : Bool) → cond b 0 1 ≤ 1
    by true = omega arith
    by false = omega arith

active_none : active no_frame ≡ 0
unfolding active
active_none = refl

-- ---- the levels below n

module _ (s : Sizes) where
  below_same : (t u : List ℕ) (n : ℕ) → ((k : Level) → frame_of s u k ≡ frame_of s t k) → running_below s u n ≡ running_below s t n
  unfolding running_below
  below_same t u zero h = refl
  below_same t u (suc n) h = rw (h (level n), below_same t u n h)

  below_idle : (t : List ℕ) (n : ℕ) → ((k : ℕ) → k < n → frame_of s t (level k) ≡ no_frame) → running_below s t n ≡ 0
  unfolding running_below
  below_idle t zero h = refl
  below_idle t (suc n) h =
      let ih = below_idle t n (λ k p. h k (omega arith)) in
      let e : active (frame_of s t (level n)) ≡ 0 = ap active (h n (omega arith)) ∙ active_none in
      omega arith

  -- a frame put at a level that is not below n, and at one that is
  put_above : (t : List ℕ) (l : Level) (g : Frame) (n : ℕ) → n ≤ l.0 → running_below s (put_frame s t l g) n ≡ running_below s t n
  unfolding running_below
  put_above t l g zero h = refl
  put_above t l g (suc n) h =
      let ih = put_above t l g n (omega arith) in
      let e = ap active (frame_other s t l g (level n) (omega arith)) in
      omega arith

  put_counts : (t : List ℕ) (l : Level) (g : Frame) (n : ℕ) → words s ≤ length t → l.0 < s.levels → l.0 < n
      → running_below s (put_frame s t l g) n + active (frame_of s t l) ≡ running_below s t n + active g
  unfolding running_below
  put_counts t l g zero long in_l h = absurd (omega arith)
  put_counts t l g (suc n) long in_l h = by (eqb n l.0) (same? n l.0) (put_counts t l g n long in_l)
    where
      by : (b : Bool) → Same n l.0 b
          → (l.0 < n → running_below s (put_frame s t l g) n + active (frame_of s t l) ≡ running_below s t n + active g)
          → running_below s (put_frame s t l g) (suc n) + active (frame_of s t l) ≡ running_below s t (suc n) + active g
      by true (same e) below_l =
          let at : level n ≡ l = ap level e in
          let new : active (frame_of s (put_frame s t l g) l) ≡ active g = ap active (frame_same s t l g long in_l) in
          let below = put_above t l g n (omega arith) in
          rw at (omega arith)
      by false (apart e) below_l =
          let ih = below_l (omega arith) in
          let kept = ap active (frame_other s t l g (level n) e) in
          omega arith

-- ---- a step

abbrev Balanced : Sizes → List ℕ → Out → Type 0
Balanced s t x = ends_in x.0 + running_below s x.1 s.levels ≡ running_below s t s.levels

refused_balanced : (s : Sizes) (t : List ℕ) (r : ℕ) → Balanced s t (refused r, t)
unfolding ends_in
refused_balanced s t r = omega arith

module _ (s : Sizes) (t : List ℕ) (l : Level) (f : Frame) (m : measured t ≡ Some s) (in_l : l.0 < s.levels)
    (op_is : f.op ≡ (frame_of s t l).op) (op_runs : f.op ≢ 0) where
  -- after an access that left every frame
  settled_balanced : (u : List ℕ) (a : After) → ((k : Level) → frame_of s u k ≡ frame_of s t k) → words s ≤ length u
      → kind_after (kind f) a ≡ kind f → Balanced s t (settled s u l f a)
  unfolding settled kind_after ends_in
  settled_balanced u (Go g) kept long alike =
      let op : g.op ≡ f.op = ap (λ (x : ℕ × ℕ). x.0) alike in
      let put = put_counts s u l g s.levels long in_l in_l in
      let others = below_same s t u s.levels kept in
      let was : active (frame_of s u l) ≡ active g = ap active (kept l) ∙ active_op (frame_of s t l) g (sym (op ∙ op_is)) in
      omega arith
  settled_balanced u (Done n) kept long alike =
      let put = put_counts s u l no_frame s.levels long in_l in_l in
      let others = below_same s t u s.levels kept in
      let was : active (frame_of s u l) ≡ 1 = ap active (kept l) ∙ active_op (frame_of s t l) f (sym op_is) ∙ active_one f op_runs in
      let now = active_none in
      omega arith

  long : words s ≤ length t
  long = (measured_fits t s m).room

  performed_balanced : (r : Row) → ((x : ℕ) → kind_of (kind f) x r ≡ kind f) → Balanced s t (performed s t l f r)
  unfolding performed kind_of
  performed_balanced (loads w after) alike = by (has s w)
    where
      by : (b : Bool) → Balanced s t (cond b (settled s t l f (after (rd s t w))) (refused 10, t))
      by true = settled_balanced t (after (rd s t w)) (λ k. refl) long (alike (rd s t w))
      by false = refused_balanced s t 10
  performed_balanced (stores w v after) alike = by (has s w) refl
    where
      by : (b : Bool) → has s w ≡ b → Balanced s t (cond b (settled s (wr s t w v) l f after) (refused 10, t))
      by true e = settled_balanced (wr s t w v) after (λ k. frame_wr s t k w e v) (rw wr_length long) (alike 0)
      by false e = refused_balanced s t 10
  performed_balanced (frees n after) alike = by (has s (Next n)) refl
    where
      by : (b : Bool) → has s (Next n) ≡ b
          → Balanced s t (cond b (settled s (wr s (wr s t (Next n) 0) (Use n) 0) l f after) (refused 10, t))
      by true e =
          settled_balanced (wr s (wr s t (Next n) 0) (Use n) 0) after
          (λ k. frame_wr s (wr s t (Next n) 0) k (Use n) (has_use s n e) 0 ∙ frame_wr s t k (Next n) e 0)
          (rw (wr_length, wr_length) long) (alike 0)
      by false e = refused_balanced s t 10
  performed_balanced nothing alike = refused_balanced s t 10

step_balanced : (s : Sizes) (t : List ℕ) → measured t ≡ Some s → Balanced s t (step_sized s t)
unfolding step_sized step_served step_frame counted
step_balanced s t m = by (serving s t s.levels) refl
  where
    by : (v : Option Level) → serving s t s.levels ≡ v → Balanced s t (step_served s t v)
    by None e = refused_balanced s t 9
    by (Some l) e = on (sound s (counted (frame_of s t l)))
      where
        f : Frame
        f = counted (frame_of s t l)

        on : (b : Bool) → Balanced s t (cond b (performed s t l f (row (point_of f.point) f l (level s.levels))) (refused 10, t))
        on true =
            performed_balanced s t l f m (serving_below s t s.levels l e) refl (serving_runs s t s.levels l e)
            (row (point_of f.point) f l (level s.levels)) (kind_kept (point_of f.point) f l (level s.levels))
        on false = refused_balanced s t 10

running_is : (s : Sizes) (t : List ℕ) → measured t ≡ Some s → running t ≡ running_below s t s.levels
unfolding running running_measured
running_is s t m = rw m

pub step_ends : (t : List ℕ) → ends_in (step_of t).0 + running (step_of t).1 ≡ running t
unfolding step_of step_measured ends_in
step_ends t = by (measured t) refl
  where
    by : (x : Option Sizes) → measured t ≡ x → ends_in (step_measured t x).0 + running (step_measured t x).1 ≡ running t
    by None m = zero-add (running t)
    by (Some s) m =
        let after = running_is s (step_sized s t).1 (step_kept s t m).sized in
        let before = running_is s t m in
        let balanced = step_balanced s t m in
        omega arith

-- ---- a begin

begun_most : (s : Sizes) (t : List ℕ) (l : Level) (g : Frame) → measured t ≡ Some s → l.0 < s.levels
    → running (put_frame s t l g) ≤ running t + 1
begun_most s t l g m in_l =
    let put = put_counts s t l g s.levels (measured_fits t s m).room in_l in_l in
    let after = running_is s (put_frame s t l g) (measured_put s t l g m) in
    let before = running_is s t m in
    let one = active_most g in
    omega arith

-- accepted or refused
unless_most : (why : ℕ) (t new : List ℕ) → (why ≡ 0 → running new ≤ running t + 1) → running (unless why t new).1 ≤ running t + 1
unfolding unless
unless_most why t new h = by (eqb why 0) refl
  where
    by : (b : Bool) → eqb why 0 ≡ b → running (cond {A = Said Unit × List ℕ} b (says tt, new) (refused why, t)).1 ≤ running t + 1
    by true e = h (eqb-true why 0 e)
    by false e = omega arith

pub enqueue_most : (t : List ℕ) (l : Level) (q : Queue) (n : Node) → running (enqueue_of t l q n).1 ≤ running t + 1
unfolding enqueue_of enqueue_measured enqueue_sized
enqueue_most t l q n = by (measured t) refl
  where
    by : (x : Option Sizes) → measured t ≡ x → running (enqueue_measured t l q n x).1 ≤ running t + 1
    by None m = omega arith
    by (Some s) m = unless_most (enqueue_why s t l q n) t _ (λ why. on (enqueues s t l q n why))
      where
        g : Frame
        g = begun 1 E1 q n

        on : Enqueues s t l q n → running (wr s (put_frame s t l g) (Use n) q.0) ≤ running t + 1
        on ok =
            let put = measured_put s t l g m in
            let used = measured_wr s (put_frame s t l g) (Use n) q.0 put ok.has_n in
            let same : running (wr s (put_frame s t l g) (Use n) q.0) ≡ running (put_frame s t l g) =
            running_is s _ used
            ∙ below_same s _ _ s.levels (λ k. frame_wr s (put_frame s t l g) k (Use n) ok.has_n q.0)
            ∙ sym (running_is s _ put)
            in
            let most = begun_most s t l g m ok.has_l in
            omega arith

pub dequeue_most : (t : List ℕ) (l : Level) (q : Queue) → running (dequeue_of t l q).1 ≤ running t + 1
unfolding dequeue_of dequeue_measured dequeue_sized
dequeue_most t l q = by (measured t) refl
  where
    by : (x : Option Sizes) → measured t ≡ x → running (dequeue_measured t l q x).1 ≤ running t + 1
    by None m = omega arith
    by (Some s) m =
        unless_most (dequeue_why s t l q) t _ (λ why. begun_most s t l (begun 2 D1 q (node 0)) m (dequeues s t l q why).has_l)

-- ---- a fresh table

pub fresh_idle : (s : Sizes) (t : List ℕ) → limits s ≡ true → words s ≤ length t → running (fresh_table s t) ≡ 0
fresh_idle s t lim room =
    running_is s (fresh_table s t) (fresh_measured s t lim room)
    ∙ below_idle s (fresh_table s t) s.levels (λ k h. fresh_frame s t lim room (level k) h)
