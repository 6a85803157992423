-- A dequeue begun on a quiet queue, among whatever goes on on other queues: any calls that begin nothing on its queue.
use Rattle.std.specs.Prelude.{Some}
use Prim.Native.Nat.{ℕ, zero, suc, ◌+◌}
use mathlib.Core.Path.{◌≡◌, refl, sym, ap, ◌∙◌, subst}
use mathlib.Core.Logic.{◌≢◌}
use mathlib.Core.Bool.{Bool, true, false, cond}
use mathlib.Core.List.{List, [], ◌∷◌, ◌++◌, append_assoc, append-nil}
use native.Mathlib.Omega.{arith}
use lib.Dec.{eqb}
use borrow.Author.Tests.{ne_eqb}
use Rattle.words.specs.declared.Queue.{Queue}
use Rattle.words.specs.declared.Frame.{Frame}
use Rattle.words.specs.Layout.{queue, node, measured}
use Rattle.answers.specs.declared.End.{End}
use Rattle.answers.specs.Said.{says, Step, going_on, ended, Run}
use Rattle.table.specs.Points.{E1, D1}
use Rattle.begins.specs.Begin.{begun, dequeue_of}
use Rattle.steps.specs.Step.{step_sized}
use Rattle.steps.specs.Run.{ran_on, run_from}
use Rattle.lists.specs.Count.{Same, same, apart, same?}
use Rattle.state.specs.Mem.{put, put_same, put_other}
use Rattle.state.specs.View.{frames, state_of}
use Rattle.demand.proofs.World.{World}
use Rattle.demand.proofs.Bridge.{same_said, no_answer}
use Rattle.demand.proofs.Keeps.{Keeps}
use Rattle.demand.proofs.Steps.{StepAt, Outcome, idle, took, step_taken}
use Rattle.demand.proofs.Begins.{can_enqueue, can_dequeue, enqueue_kept, dequeue_kept}
use Rattle.demand.proofs.Kept.{step_of_holds, run_of_holds}
use Rattle.demand.proofs.Moments.{quietly, quiet_then, still_front}
use Rattle.demand.proofs.Dequeue.{Ending}
use Rattle.demand.proofs.Among.{Begun, before, OnIt, Stage, runs, over, on_it, elsewhere, stage_step}
use Rattle.demand.specs.History.{Event, Accepted, enqueue, dequeue, step, run, ask, History, none, call}
use Rattle.demand.specs.History.{of_step, of_run, of_call, ended_at, ended_on}
use Rattle.demand.specs.Demand.{QuietAt, BeginsElsewhere, NothingBegunOn, first_of}

module _ (B : Begun) where
  open B use {s, t, l, q}

  -- all queues are sound in table x, and on q these operations have ended
  pub record Since (x : List ℕ) (es : List End) : Type 0 where
    pub fronts : ℕ → List ℕ
    pub sized : measured x ≡ Some s
    pub world : World s (state_of s x) fronts
    pub stage : Stage B x fronts es

  since : {x y : List ℕ} {fronts ret han : ℕ → List ℕ} {es : List End} (k : Keeps s x fronts ret han y)
      → Stage B y k.fronts' es → Since y es
  since k st = record { fronts = k.fronts'; sized = k.sized; world = k.world; stage = st }

  -- nothing more ended
  none_more : {x : List ℕ} {es : List End} → Since x es → Since x (es ++ [])
  none_more {x} {es} h = subst (Since x) (sym (append-nil es)) h

  -- ---- it begins

  pub begun_since : (u : List ℕ) → dequeue_of t l q ≡ (says tt, u) → Since u []
  begun_since u h =
      since kept (runs (record {
        op = ap (λ (f : Frame). f.op) frame;
        queue_is = ap (λ (f : Frame). f.queue) frame;
        only = λ j o. only j o (eqb j l.0) (same? j l.0);
        begins = rw (still_front s t B.fronts B.sized B.world q B.nobody) (kept.begins q.0);
        owned = λ n. omega (arith, kept.balance q.0 B.nobody.some_queue n);
      }))
    where
      g : Frame
      g = begun 2 D1 q (node 0)

      kept : Keeps s t B.fronts (λ p. []) (λ p. []) u
      kept = dequeue_kept s t B.fronts B.sized B.world l q u h

      frames_are : frames s u ≡ put (frames s t) l.0 g
      frames_are = (can_dequeue s t B.sized l q u h).frames_are

      frame : frames s u l.0 ≡ g
      frame = rw frames_are (put_same (frames s t) l.0 g)

      only : (j : ℕ) → OnIt B u j → (b : Bool) → Same j l.0 b → j ≡ l.0
      only j o true (same z) = z
      only j o false (apart z) = absurd (B.nobody.nobody j (rw (frames_are, put_other (frames s t) l.0 g j z) at o))

  -- ---- calls

  step_since : (x : List ℕ) (es : List End) (h : Since x es) (i : ℕ) (y : Step) (a : StepAt s x h.fronts i y)
      → Since a.table (es ++ of_step (ended_at q.0) y)
  step_since x es h i y a = since a.keeps (stage_step B x h.fronts h.world i y a es h.stage)

  run_since : (budget n : ℕ) (x : List ℕ) (es : List End) → Since x es → (y : Run) (u : List ℕ) → run_from s budget n x ≡ (says y, u)
      → Since u (es ++ of_run (ended_at q.0) y)
  unfolding run_from ran_on
  run_since zero n x es h y u e = let z = same_said e in rw (← z.0, ← z.1) (none_more h)
  run_since (suc budget) n x es h y u e =
      by (step_taken s x h.fronts h.sized h.world) e (λ v k. run_since budget (n + 1) v (es ++ []) k y u)
    where
      by : Outcome s x h.fronts → ran_on n (run_from s budget) (step_sized s x).0 (step_sized s x).1 ≡ (says y, u)
          → ((v : List ℕ) → Since v (es ++ []) → run_from s budget (n + 1) v ≡ (says y, u)
          → Since u ((es ++ []) ++ of_run (ended_at q.0) y))
          → Since u (es ++ of_run (ended_at q.0) y)
      by (idle k i) e on = let z = same_said (rw k at e) in rw (← z.0, ← z.1) (none_more h)
      by (took i going_on a) e on =
          let more = on a.table (step_since x es h i going_on a) (rw a.is at e) in
          subst (λ (p : List End). Since u (p ++ of_run (ended_at q.0) y)) (append-nil es) more
      by (took i (ended z) a) e on =
          let same = same_said (rw a.is at e) in rw (← same.0, ← same.1) (step_since x es h i (ended z) a)

  other_queue : (r : Queue) → r ≢ q → r.0 ≢ q.0
  other_queue r ne e = ne (ap queue e)

  accepted_since : (x u : List ℕ) (es : List End) (e : Event) → Since x es → Accepted x u e → BeginsElsewhere q e
      → Since u (es ++ of_call (ended_at q.0) e)
  accepted_since x u es e h (enqueue {l = i} {q = r} {n = n} a) ne =
      let c = can_enqueue s x h.sized i r n u a in
      let k = enqueue_kept s x h.fronts h.sized h.world i r n u a in
      let other = other_queue r ne in
      none_more (since k (elsewhere B x u h.fronts (λ p. []) (λ p. cond (eqb r.0 p) (n.0 ∷ []) []) k refl
      (rw (ne_eqb r.0 q.0 other)) i.0 (begun 1 E1 r n) c.frames_are
      (λ o. o.0 (c.idle i.0 (omega arith))) (λ o. other o.1) es h.stage))
  accepted_since x u es e h (dequeue {l = i} {q = r} a) ne =
      let c = can_dequeue s x h.sized i r u a in
      let k = dequeue_kept s x h.fronts h.sized h.world i r u a in
      none_more (since k (elsewhere B x u h.fronts (λ p. []) (λ p. []) k refl refl i.0 (begun 2 D1 r (node 0)) c.frames_are
      (λ o. o.0 (c.idle i.0 (omega arith))) (λ o. other_queue r ne o.1) es h.stage))
  accepted_since x u es e h (step {x = y} a) ne = by (step_taken s x h.fronts h.sized h.world)
    where
      by : Outcome s x h.fronts → Since u (es ++ of_step (ended_at q.0) y)
      by (idle k i) = absurd (no_answer (sym k ∙ sym (step_of_holds s x h.sized) ∙ a))
      by (took i z b) =
          let same = same_said (sym b.is ∙ sym (step_of_holds s x h.sized) ∙ a) in
          rw (← same.0, ← same.1) (step_since x es h i z b)
  accepted_since x u es e h (run {budget = budget} {x = y} a) ne =
      run_since budget 0 x es h y u (sym (run_of_holds s budget x h.sized) ∙ a)
  accepted_since x u es e h (ask a) ne = subst (λ (z : List ℕ). Since z (es ++ [])) a (none_more h)

  pub history_since : (x v : List ℕ) (es : List End) (fs : List Event) → Since x es → History x fs v → NothingBegunOn q fs
      → Since v (es ++ ended_on q fs)
  history_since x v es fs h (none e) c = subst (λ (z : List ℕ). Since z (es ++ [])) e (none_more h)
  history_since x v es fs h (call {u = u} {e = e} {es = gs} a rest) c =
      subst (Since v) (append_assoc es (of_call (ended_at q.0) e) (ended_on q gs))
      (history_since u v (es ++ of_call (ended_at q.0) e) gs (accepted_since x u es e h a c.0) rest c.1)

  -- ---- whether it has ended

  module _ (v : List ℕ) (es : List End) (h : Since v es) where
    pub sole_end : QuietAt v q → (e : End) × (es ≡ e ∷ []) × Ending l.0 2 q (first_of (before B)) e
    sole_end again = by h.stage
      where
        by : {gs : List End} → Stage B v h.fronts gs → (e : End) × (gs ≡ e ∷ []) × Ending l.0 2 q (first_of (before B)) e
        by (runs r) = absurd ((quietly s v q h.sized again).nobody l.0 (on_it B v h.fronts r))
        by (over nobody e z) = (e, refl, z)

    pub no_end : ¬ QuietAt v q → es ≡ []
    no_end busy = by h.stage
      where
        by : {gs : List End} → Stage B v h.fronts gs → gs ≡ []
        by (runs r) = refl
        by (over nobody e z) =
            absurd (busy (quiet_then s v q h.sized
            (record { some_queue = B.nobody.some_queue; queue_known = B.nobody.queue_known; nobody = nobody })))
