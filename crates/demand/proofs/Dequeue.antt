-- A dequeue alone, in the table: the run of its steps that memory shows is the run of the table.
use Rattle.std.specs.Prelude.{Some}
use Prim.Native.Nat.{ℕ, zero, suc, ◌+◌, ◌≤◌, ◌<◌}
use mathlib.Core.Path.{◌≡◌, refl, sym, ap, ◌∙◌, subst}
use mathlib.Core.Logic.{◌≢◌}
use mathlib.Core.List.{List}
use native.Mathlib.Omega.{arith}
use Rattle.words.specs.declared.Queue.{Queue}
use Rattle.words.specs.declared.Sizes.{Sizes}
use Rattle.words.specs.declared.Frame.{Frame}
use Rattle.words.specs.Layout.{level, node, measured}
use Rattle.answers.specs.declared.End.{End}
use Rattle.answers.specs.Said.{says, going_on, ended, Run, after, an_end}
use Rattle.table.specs.declared.After.{After}
use Rattle.table.specs.declared.After.TheVariants.{Go}
use Rattle.table.specs.Frames.{counted}
use Rattle.steps.specs.Step.{end_of, step_sized}
use Rattle.steps.specs.Run.{ran_on, run_from}
use Rattle.state.specs.Mem.{Mem, put, put_same, put_other}
use Rattle.state.specs.Step.{mem_after, then, frame_after, row_of}
use Rattle.state.specs.View.{memory, frames, state_of}
use Rattle.state.proofs.Seen.{frame_is}
use Rattle.demand.proofs.Rows.{goes_on}
use Rattle.demand.proofs.World.{World}
use Rattle.demand.proofs.Bridge.{says_of, same_said}
use Rattle.demand.proofs.Steps.{StepAt, step_at}
use Rattle.demand.specs.History.{Event, ran, Accepted, enqueue, dequeue, step, run, ask, History, none, call}
use Rattle.demand.specs.Demand.{Uneventful, AllUneventful}
use Rattle.demand.proofs.Kept.{step_of_holds, run_of_holds}
use Rattle.demand.proofs.Alone.{Runs, last, more}

-- the end of an operation of this op at level l on queue q, with node x
pub record Ending (l o : ℕ) (q : Queue) (x : ℕ) (e : End) : Type 0 where
  pub op : e.op ≡ o
  pub level_is : e.level ≡ level l
  pub queue_is : e.queue ≡ q
  pub node_is : e.node.0 ≡ x

module _ (s : Sizes) (l : ℕ) (low : l < s.levels) where
  -- the frame f at level l, of memory M, is next
  pub record Next (M : Mem) (f : Frame) (t : List ℕ) (fronts : ℕ → List ℕ) : Type 0 where
    pub sized : measured t ≡ Some s
    pub world : World s (state_of s t) fronts
    pub mem : memory s t ≡ M
    pub frame : frames s t l ≡ f
    pub runs : f.op ≢ 0
    pub top : (j : ℕ) → l < j → (frames s t j).op ≡ 0

  one_step : {M : Mem} {f : Frame} {a : After} (t : List ℕ) (fronts : ℕ → List ℕ) → Next M f t fronts → then M (row_of s.levels l f) (counted f) ≡ a
      → StepAt s t fronts l (says_of (level l) (counted f) a)
  one_step t fronts h e =
      let f' = frame_is s t l low in
      let k =
      step_at s t fronts h.sized h.world l low (rw (← f', h.frame) h.runs) (λ j a b. rw (← frame_is s t j b) (h.top j a)) in
      rw (h.mem, h.frame, e) at k

  going : {M : Mem} {f g : Frame} (t : List ℕ) (fronts : ℕ → List ℕ) (h : Next M f t fronts) (e : then M (row_of s.levels l f) (counted f) ≡ Go g)
      (k : StepAt s t fronts l going_on) → Next (mem_after M (row_of s.levels l f)) g k.table k.keeps.fronts'
  going {M} {f} {g} t fronts h e k =
      record {
        sized = k.keeps.sized;
        world = k.keeps.world;
        mem = k.bridged.mem ∙ rw (h.mem, h.frame);
        frame = rw frames_are (put_same (frames s t) l g);
        runs = rw (goes_on M s.levels l f g e).0 h.runs;
        top = λ j a. rw (frames_are, put_other (frames s t) l g j (omega arith)) (h.top j a);
      }
    where
      frames_are : frames s k.table ≡ put (frames s t) l g
      frames_are =
          let z : frame_after (then (memory s t) (row_of s.levels l (frames s t l)) (counted (frames s t l))) ≡ g = rw (h.mem, h.frame, e) in
          k.bridged.frames_are ∙ ap (put (frames s t) l) z

  -- the operation at level l is served, and ends with node x after at most b steps
  pub record Going (o : ℕ) (q : Queue) (x b : ℕ) (t : List ℕ) : Type 0 where
    pub steps : ℕ
    pub M : Mem
    pub f : Frame
    pub fronts : ℕ → List ℕ
    pub few : steps ≤ b
    pub runs : Runs s.levels l steps M f x
    pub next : Next M f t fronts
    pub op : f.op ≡ o
    pub queue_is : f.queue ≡ q

  -- its next step
  data OneMore (o : ℕ) (q : Queue) (x b : ℕ) (t : List ℕ) : Type 0 where
    ends : (e : End) (u : List ℕ) → step_sized s t ≡ (says (ended e), u) → Ending l o q x e → OneMore o q x b t
    goes : (u : List ℕ) → step_sized s t ≡ (says going_on, u) → Going o q x b u → OneMore o q x b t

  one_more : {o : ℕ} {q : Queue} {x : ℕ} (b : ℕ) (t : List ℕ) → Going o q x (suc b) t → OneMore o q x b t
  unfolding counted
  one_more {o} {q} {x} b t g = by g.few g.runs g.next g.op g.queue_is
    where
      by : {i : ℕ} {M : Mem} {f : Frame} → i ≤ suc b → Runs s.levels l i M f x → Next M f t g.fronts → f.op ≡ o → f.queue ≡ q → OneMore o q x b t
      by few (last {f = f} e) h a c =
          let k = one_step t g.fronts h e in
          ends (end_of (level l) (counted f) (node x)) k.table k.is (record { op = a; level_is = refl; queue_is = c; node_is = refl })
      by few (more {n = j} {M = M} {f = f} f' e r) h a c =
          let k = one_step t g.fronts h e in
          let same = goes_on M s.levels l f f' e in
          goes k.table k.is
          (record {
            steps = j;
            M = mem_after M (row_of s.levels l f);
            f = f';
            fronts = k.keeps.fronts';
            few = omega arith;
            runs = r;
            next = going t g.fronts h e k;
            op = same.0 ∙ a;
            queue_is = same.1 ∙ c;
          })

  some_left : {o : ℕ} {q : Queue} {x : ℕ} (t : List ℕ) → Going o q x 0 t → ⊥
  some_left {x = x} t g = by g.few g.runs
    where
      by : {i : ℕ} {M : Mem} {f : Frame} → i ≤ 0 → Runs s.levels l i M f x → ⊥
      by h (last e) = omega arith
      by h (more f e r) = omega arith

  -- a run with budget enough ends it
  pub run_ends : {o : ℕ} {q : Queue} {x : ℕ} (b : ℕ) (t : List ℕ) → Going o q x b t → (budget n : ℕ) → b ≤ budget
      → (steps : ℕ) × (e : End) × (v : List ℕ) × (run_from s budget n t ≡ (says (after steps (an_end e)), v)) × Ending l o q x e
  unfolding run_from ran_on
  run_ends zero t g budget n h = absurd (some_left t g)
  run_ends (suc b) t g zero n h = absurd (omega arith)
  run_ends {o} {q} {x} (suc b) t g (suc budget) n h = by (one_more b t g) (λ u k. run_ends b u k budget (n + 1) (omega arith))
    where
      by : OneMore o q x b t
          → ((u : List ℕ) → Going o q x b u
          → (steps : ℕ) × (e : End) × (v : List ℕ) × (run_from s budget (n + 1) u ≡ (says (after steps (an_end e)), v)) × Ending l o q x e)
          → (steps : ℕ) × (e : End) × (v : List ℕ)
          × (ran_on n (run_from s budget) (step_sized s t).0 (step_sized s t).1 ≡ (says (after steps (an_end e)), v)) × Ending l o q x e
      by (ends e u k z) on = (n + 1, e, u, rw k, z)
      by (goes u k z) on = let r = on u z in (r.0, r.1, r.2, rw k r.3, r.4)

  less : {o : ℕ} {q : Queue} {x b : ℕ} {t : List ℕ} → Going o q x b t → Going o q x (suc b) t
  less g =
      record {
        steps = g.steps;
        M = g.M;
        f = g.f;
        fronts = g.fronts;
        few = omega (arith, g.few);
        runs = g.runs;
        next = g.next;
        op = g.op;
        queue_is = g.queue_is;
      }

  -- a run in which nothing ends leaves it going
  pub run_goes : {o : ℕ} {q : Queue} {x : ℕ} (b : ℕ) (t : List ℕ) → Going o q x b t → (budget n : ℕ) (y : Run) (u : List ℕ)
      → run_from s budget n t ≡ (says y, u) → Uneventful (ran budget y) → Going o q x b u
  unfolding run_from ran_on
  run_goes {o} {q} {x} b t g zero n y u e c = subst (Going o q x b) (same_said e).1 g
  run_goes zero t g (suc budget) n y u e c = absurd (some_left t g)
  run_goes {o} {q} {x} (suc b) t g (suc budget) n y u e c = by (one_more b t g) e (λ v k z. run_goes b v k budget (n + 1) y u z c)
    where
      by : OneMore o q x b t → ran_on n (run_from s budget) (step_sized s t).0 (step_sized s t).1 ≡ (says y, u)
          → ((v : List ℕ) → Going o q x b v → run_from s budget (n + 1) v ≡ (says y, u) → Going o q x b u) → Going o q x (suc b) u
      by (ends a v k z) e on =
          absurd (subst (λ (r : Run). Uneventful (ran 0 r)) (sym (same_said (rw k at e)).0) c)
      by (goes v k z) e on = let h = on v z (rw k at e) in less h

  step_goes : {o : ℕ} {q : Queue} {x : ℕ} (b : ℕ) (t u : List ℕ) → Going o q x b t → step_sized s t ≡ (says going_on, u) → Going o q x b u
  step_goes zero t u g h = absurd (some_left t g)
  step_goes {o} {q} {x} (suc b) t u g h = by (one_more b t g)
    where
      by : OneMore o q x b t → Going o q x (suc b) u
      by (ends e v k z) = let d = (same_said (sym k ∙ h)).0 in cc
      by (goes v k z) = less (subst (Going o q x b) (same_said (sym k ∙ h)).1 z)

  accepted_goes : {o : ℕ} {q : Queue} {x : ℕ} (b : ℕ) (t u : List ℕ) (e : Event) → Going o q x b t → Accepted t u e → Uneventful e → Going o q x b u
  accepted_goes b t u e g (enqueue h) c = absurd c
  accepted_goes b t u e g (dequeue h) c = absurd c
  accepted_goes b t u e g (step {x = ended a} h) c = absurd c
  accepted_goes b t u e g (step {x = going_on} h) c = step_goes b t u g (sym (step_of_holds s t g.next.sized) ∙ h)
  accepted_goes b t u e g (run {budget = budget} {x = y} h) c =
      run_goes b t g budget 0 y u (sym (run_of_holds s budget t g.next.sized) ∙ h) c
  accepted_goes {o} {q} {x} b t u e g (ask h) c = subst (Going o q x b) h g

  -- calls in which nothing begins or ends leave it going
  pub history_goes : {o : ℕ} {q : Queue} {x : ℕ} (b : ℕ) (t u : List ℕ) (es : List Event) → Going o q x b t → History t es u → AllUneventful es
      → Going o q x b u
  history_goes {o} {q} {x} b t u es g (none e) c = subst (Going o q x b) e g
  history_goes b t v es g (call {u = u} {e = e} {es = fs} a h) c = history_goes b u v fs (accepted_goes b t u e g a c.0) h c.1
