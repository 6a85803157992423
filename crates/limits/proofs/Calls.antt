-- Every accepted call keeps the cost facts, and is a move of the frames: what it begins has taken no step, every step adds 1 to the steps
-- word of the level that is served, and an end says that word, within the bounds.
use Rattle.std.specs.Prelude.{Some}
use Prim.Native.Nat.{ℕ, zero, suc, ◌+◌, ◌*◌, ◌≤◌, ◌<◌}
use mathlib.Core.Path.{◌≡◌, refl, sym, ap, ◌∙◌, subst}
use mathlib.Core.Logic.{◌≢◌}
use mathlib.Core.Bool.{Bool, true, false}
use mathlib.Core.List.{List, [], ◌∷◌}
use native.Mathlib.Omega.{arith}
use native.Mathlib.Nat.{mul-le-mul_right}
use lib.Dec.{eqb, ltb}
use borrow.Author.Tests.{ltb-true, ltb-false}
use Rattle.words.specs.declared.Level.{Level}
use Rattle.words.specs.declared.Sizes.{Sizes}
use Rattle.words.specs.declared.Queue.{Queue}
use Rattle.words.specs.declared.Node.{Node}
use Rattle.words.specs.declared.Frame.{Frame}
use Rattle.words.specs.Layout.{level, node, measured}
use Rattle.answers.specs.declared.End.{End}
use Rattle.answers.specs.Said.{says, Step, going_on, ended, Why, Run, after, an_end, spent, nothing_runs, refusal_10}
use Rattle.answers.specs.Most.{operation_most}
use Rattle.table.specs.declared.After.{After}
use Rattle.table.specs.declared.After.TheVariants.{Go, Done}
use Rattle.table.specs.Points.{E1, D1}
use Rattle.table.specs.Frames.{counted}
use Rattle.steps.specs.Run.{ran_on, run_from}
use Rattle.begins.specs.Begin.{begun, enqueue_of, dequeue_of}
use Rattle.lists.specs.Count.{Same, same, apart, same?}
use Rattle.state.specs.Mem.{put, put_same, put_other}
use Rattle.state.specs.Step.{State, then, row_of, frame_after, stepped}
use Rattle.state.specs.View.{memory, frames, state_of}
use Rattle.demand.specs.History.{Event, stepped as was_stepped, ran, Accepted, enqueue, dequeue, step, run, ask, History, none, call}
use Rattle.demand.specs.History.{returned_by}
use Rattle.demand.proofs.World.{World, enqueue_begun, dequeue_begun}
use Rattle.demand.proofs.Rows.{goes_on}
use Rattle.demand.proofs.Keeps.{Keeps}
use Rattle.demand.proofs.Bridge.{says_of, same_said, no_answer}
use Rattle.demand.proofs.Steps.{StepAt, Outcome, idle, took, step_taken}
use Rattle.demand.proofs.Begins.{can_enqueue, can_dequeue, enqueue_state, dequeue_state, enqueue_kept, dequeue_kept}
use Rattle.demand.proofs.Kept.{step_of_holds, run_of_holds, accepted_kept}
use Rattle.limits.specs.Course.{Effect, begins, steps, ends, ran_for, effect, begun as begun_in}
use Rattle.limits.specs.Limits.{Capped, InBounds}
use Rattle.limits.proofs.All.{AllFew, AllPaid, all_step, all_enqueue, all_dequeue, counts_each}
use Rattle.limits.proofs.Few.{few_table, few_still, Bounded, few_now, bounded_then}
use Rattle.limits.proofs.Move.{ServedAt, GoesOn, EndsAs, Move, begun as is_begun, goes, stops, rests}

-- what holds of a table on the way, where no queue has more than v nodes
pub record Good (s : Sizes) (v : ℕ) (t : List ℕ) : Type 0 where
  pub sized : measured t ≡ Some s
  pub fronts : ℕ → List ℕ
  pub world : World s (state_of s t) fronts
  pub paid : AllPaid s v (state_of s t)
  -- with all nodes of the table: by these no word comes near the cap
  pub whole : AllPaid s s.nodes (state_of s t)

-- the bound of every level is below that of level L
pub most_below : (s : Sizes) (v j : ℕ) → j < s.levels → operation_most j v ≤ s.levels * (v + 6) + 15
most_below s v j low = let up : j + 1 ≤ s.levels = omega arith in omega (arith, mul-le-mul_right (v + 6) up)

module _ (s : Sizes) (v : ℕ) (cap : Capped s) where
  -- a call from t to u with this effect
  pub record Moved (t u : List ℕ) (x : Effect) : Type 0 where
    pub good : Good s v u
    pub move : Move s.levels v (frames s t) (frames s u) x

  -- ---- a step

  module _ (t : List ℕ) (k : Good s v t) (few : AllFew s v (state_of s t)) (l : ℕ) (y : Step) (a : StepAt s t k.fronts l y) where
    abbrev f : Frame
    f = frames s t l

    abbrev u : List ℕ
    u = a.table

    abbrev follows : After
    follows = then (memory s t) (row_of s.levels l (frames s t l)) (counted (frames s t l))

    one : (counted f).steps ≡ f.steps + 1
    one =
        counts_each s (state_of s t) k.fronts k.world s.nodes k.whole l a.runs
        (omega (arith, most_below s s.nodes l a.low))

    state : state_of s u ≡ stepped s.levels l (state_of s t)
    state = λ i. record { mem = a.bridged.mem i; frames = a.bridged.frames_are i }

    paid_then : (w : ℕ) → AllPaid s w (state_of s t) → AllFew s w (state_of s t) → AllPaid s w (state_of s u)
    paid_then w p few =
        subst (λ (S : State). AllPaid s w S) (sym state)
        (all_step s (state_of s t) k.fronts k.world w p few l f.queue.0 a.low (a.runs, refl) a.highest).after

    good_then : Good s v u
    good_then =
        record {
          sized = a.keeps.sized;
          fronts = a.keeps.fronts';
          world = a.keeps.world;
          paid = paid_then v k.paid few;
          whole = paid_then s.nodes k.whole (few_table s (state_of s t) k.fronts k.world);
        }

    frame_then : frames s u l ≡ frame_after follows
    frame_then = ap (λ (F : ℕ → Frame). F l) a.bridged.frames_are ∙ put_same (frames s t) l (frame_after follows)

    serves : ServedAt s.levels (frames s t) (frames s u) l
    serves =
        record {
          low = a.low;
          runs = a.runs;
          highest = a.highest;
          others = λ j ne. ap (λ (F : ℕ → Frame). F j) a.bridged.frames_are ∙ put_other (frames s t) l (frame_after follows) j ne;
        }

    by_after : (z : After) → follows ≡ z
        → Move s.levels v (frames s t) (frames s u) (effect (was_stepped (says_of (level l) (counted f) z)))
    unfolding counted
    by_after (Go g) e =
        let still = goes_on (memory s t) s.levels l f g e in
        let is_g = frame_then ∙ ap frame_after e in
        goes l serves (record {
          op = ap (λ (h : Frame). h.op) is_g ∙ still.0;
          queue_is = ap (λ (h : Frame). h.queue) is_g ∙ still.1;
          steps_are = ap (λ (h : Frame). h.steps) is_g ∙ still.2 ∙ one;
        })
    by_after (Done n) e =
        let most =
        (all_step s (state_of s t) k.fronts k.world v k.paid few l f.queue.0 a.low (a.runs, refl) a.highest).most n e in
        stops l serves (ap (λ (h : Frame). h.op) (frame_then ∙ ap frame_after e))
        (record { level_is = refl; op = refl; queue_is = refl; steps_are = one }) most

    pub step_moved : Moved t u (effect (was_stepped y))
    step_moved =
        record {
          good = good_then;
          move =
              subst (λ (z : Step). Move s.levels v (frames s t) (frames s u) (effect (was_stepped z))) (sym a.said)
              (by_after follows refl);
        }

    pub few_step : AllFew s v (state_of s u)
    few_step = few_still s t u k.fronts v _ a.keeps few

  -- ---- a run

  -- where a level goes on, it is the one that is served next
  again : (F G H : ℕ → Frame) (l i n : ℕ) → ServedAt s.levels F G l → GoesOn (F l) (G l) n → ServedAt s.levels G H i → i ≡ l
  again F G H l i n a g b = by (eqb i l) (same? i l) (ltb l i) refl
    where
      by : (x : Bool) → Same i l x → (y : Bool) → ltb l i ≡ y → i ≡ l
      by true (same e) y z = e
      by false (apart e) true z =
          absurd (b.runs (ap (λ (f : Frame). f.op) (a.others i e) ∙ a.highest i (ltb-true l i z)))
      by false (apart e) false z =
          absurd (a.runs (sym g.op ∙ b.highest l (omega (arith, ltb-false l i z))))

  -- the same level served, and then served again
  both : (F G H : ℕ → Frame) (l : ℕ) → ServedAt s.levels F G l → ServedAt s.levels G H l → ServedAt s.levels F H l
  both F G H l a b =
      record { low = a.low; runs = a.runs; highest = a.highest; others = λ j ne. b.others j ne ∙ a.others j ne }

  -- a step, and then what a run did
  module _ (F G H : ℕ → Frame) (l : ℕ) (a : ServedAt s.levels F G l) (g : GoesOn (F l) (G l) 1) where
    then_goes : (n i : ℕ) → i ≡ l → ServedAt s.levels G H i → GoesOn (G i) (H i) n → Move s.levels v F H (steps (1 + n))
    then_goes n i e b h =
        let at_l : GoesOn (G l) (H l) n = rw e at h in
        goes {n = 1 + n} l (both F G H l a (rw e at b)) (record {
          op = at_l.op ∙ g.op;
          queue_is = at_l.queue_is ∙ g.queue_is;
          steps_are = omega (arith, at_l.steps_are, g.steps_are);
        })

    then_stops : (n : ℕ) (e : End) (i : ℕ) → i ≡ l → ServedAt s.levels G H i → (H i).op ≡ 0 → EndsAs i (G i) n e → InBounds v e
        → Move s.levels v F H (ends (1 + n) e)
    then_stops n e i z b gone x short =
        let at_l : EndsAs l (G l) n e = rw z at x in
        stops {n = 1 + n} {e = e} l (both F G H l a (rw z at b)) (rw z at gone) (record {
          level_is = at_l.level_is;
          op = at_l.op ∙ g.op;
          queue_is = at_l.queue_is ∙ g.queue_is;
          steps_are = omega (arith, at_l.steps_are, g.steps_are);
        }) short

    then_rests : G ≡ H → Move s.levels v F H (steps 1)
    then_rests e = subst (λ (K : ℕ → Frame). Move s.levels v F K (steps 1)) e (goes l a g)

    of_steps : (k : ℕ) (x : Effect) → x ≡ steps k → Move s.levels v G H x → Move s.levels v F H (steps (1 + k))
    of_steps k _ e (is_begun i b) = cc
    of_steps k _ e (goes {n = n} i b h) = let z : n ≡ k = cc in rw (← z) (then_goes n i (again F G H l i 1 a g b) b h)
    of_steps k _ e (stops i b gone x short) = cc
    of_steps k _ e (rests y) = let z : 0 ≡ k = cc in rw (← z) (then_rests y)

    of_end : (k : ℕ) (d : End) (x : Effect) → x ≡ ends k d → Move s.levels v G H x → Move s.levels v F H (ends (1 + k) d)
    of_end k d _ e (is_begun i b) = cc
    of_end k d _ e (goes i b h) = cc
    of_end k d _ e (stops {n = n} {e = c} i b gone x short) =
        let z : n ≡ k = cc in
        let y : c ≡ d = cc in
        rw (← z, ← y) (then_stops n c i (again F G H l i 1 a g b) b gone x short)
    of_end k d _ e (rests y) = cc

    then_ran : (k : ℕ) (why : Why) → Move s.levels v G H (ran_for k why) → Move s.levels v F H (ran_for (1 + k) why)
    then_ran k (an_end e) m = of_end k e (ends k e) refl m
    then_ran k spent m = of_steps k (steps k) refl m
    then_ran k nothing_runs m = of_steps k (steps k) refl m
    then_ran k refusal_10 m = of_steps k (steps k) refl m

  step_ran : (F G H : ℕ → Frame) (k : ℕ) (why : Why) (x : Effect) → x ≡ steps 1 → Move s.levels v F G x
      → Move s.levels v G H (ran_for k why) → Move s.levels v F H (ran_for (1 + k) why)
  step_ran F G H k why _ e (is_begun i b) m = cc
  step_ran F G H k why _ e (goes {n = n} i b h) m = let z : n ≡ 1 = cc in then_ran F G H i b (rw z at h) k why m
  step_ran F G H k why _ e (stops i b gone x short) m = cc
  step_ran F G H k why _ e (rests y) m = cc

  -- why a run stopped that had so many steps
  abbrev pub Reason : ℕ → List ℕ → ℕ → Why → Type 0
  Reason budget u k (an_end e) = Unit
  Reason budget u k spent = k ≡ budget
  Reason budget u k nothing_runs = (j : ℕ) → (frames s u j).op ≡ 0
  Reason budget u k refusal_10 = ⊥

  -- a run after n steps
  pub record Ran (budget n : ℕ) (t : List ℕ) : Type 0 where
    pub count : ℕ
    pub why : Why
    pub table : List ℕ
    pub is : run_from s budget n t ≡ (says (after (n + count) why), table)
    pub moved : Moved t table (ran_for count why)
    pub reason : Reason budget table count why

  one_more : (budget k : ℕ) (u : List ℕ) (why : Why) → Reason budget u k why → Reason (suc budget) u (1 + k) why
  one_more budget k u (an_end e) h = tt
  one_more budget k u spent h = omega arith
  one_more budget k u nothing_runs h = h
  one_more budget k u refusal_10 h = h

  pub run_moved : (budget n : ℕ) (t : List ℕ) → Good s v t → AllFew s v (state_of s t) → Ran budget n t
  unfolding run_from ran_on
  run_moved zero n t k few =
      let z : n ≡ n + 0 = omega arith in
      record {
        count = 0;
        why = spent;
        table = t;
        is = ap (λ (m : ℕ). (says (after m spent), t)) z;
        moved = record { good = k; move = rests refl };
        reason = refl;
      }
  run_moved (suc budget) n t k few = by (step_taken s t k.fronts k.sized k.world) (run_moved budget (n + 1))
    where
      by : Outcome s t k.fronts → ((u : List ℕ) → Good s v u → AllFew s v (state_of s u) → Ran budget (n + 1) u) → Ran (suc budget) n t
      by (idle e i) on =
          let z : n ≡ n + 0 = omega arith in
          record {
            count = 0;
            why = nothing_runs;
            table = t;
            is = rw e (ap (λ (m : ℕ). (says (after m nothing_runs), t)) z);
            moved = record { good = k; move = rests refl };
            reason = i;
          }
      by (took l going_on a) on =
          let one = step_moved t k few l going_on a in
          let r = on a.table one.good (few_step t k few l going_on a) in
          let z : n + 1 + r.count ≡ n + (1 + r.count) = omega arith in
          record {
            count = 1 + r.count;
            why = r.why;
            table = r.table;
            is = rw a.is (r.is ∙ ap (λ (m : ℕ). (says (after m r.why), r.table)) z);
            moved = record {
              good = r.moved.good;
              move = step_ran (frames s t) (frames s a.table) (frames s r.table) r.count r.why (steps 1) refl one.move
                  r.moved.move;
            };
            reason = one_more budget r.count r.table r.why r.reason;
          }
      by (took l (ended e) a) on =
          record {
            count = 1;
            why = an_end e;
            table = a.table;
            is = rw a.is;
            moved = step_moved t k few l (ended e) a;
            reason = tt;
          }

  -- ---- a begin

  module _ (t u : List ℕ) (k : Good s v t) (l : Level) where
    begun_move : (g : Frame) → l.0 < s.levels → ((j : ℕ) → l.0 ≤ j → (frames s t j).op ≡ 0) → frames s u ≡ put (frames s t) l.0 g
        → g.op ≢ 0 → g.steps ≡ 0 → Move s.levels v (frames s t) (frames s u) begins
    begun_move g low unused e op z =
        let at_l : frames s u l.0 ≡ g = ap (λ (F : ℕ → Frame). F l.0) e ∙ put_same (frames s t) l.0 g in
        is_begun l.0 (record {
          low = low;
          idle = unused;
          runs = λ r. op (sym (ap (λ (f : Frame). f.op) at_l) ∙ r);
          steps_are = ap (λ (f : Frame). f.steps) at_l ∙ z;
          others = λ j ne. ap (λ (F : ℕ → Frame). F j) e ∙ put_other (frames s t) l.0 g j ne;
        })

    -- with the facts of both, in the state that the table is then
    begun_moved : {returned handed : ℕ → List ℕ} (S : State) → Keeps s t k.fronts returned handed u → state_of s u ≡ S
        → ((w : ℕ) → AllPaid s w (state_of s t) → AllPaid s w S) → Move s.levels v (frames s t) (frames s u) begins → Moved t u begins
    begun_moved S kept e paid m =
        record {
          good = record {
            sized = kept.sized;
            fronts = kept.fronts';
            world = kept.world;
            paid = subst (λ (T : State). AllPaid s v T) (sym e) (paid v k.paid);
            whole = subst (λ (T : State). AllPaid s s.nodes T) (sym e) (paid s.nodes k.whole);
          };
          move = m;
        }

    enqueue_moved : (q : Queue) (n : Node) → enqueue_of t l q n ≡ (says tt, u) → Moved t u begins
    enqueue_moved q n h =
        let c = can_enqueue s t k.sized l q n u h in
        begun_moved (enqueue_begun (state_of s t) l.0 q.0 n.0) (enqueue_kept s t k.fronts k.sized k.world l q n u h)
        (enqueue_state s t l q u n c)
        (λ w p. all_enqueue s (state_of s t) k.fronts k.world w p l.0 q.0 c.idle n.0 c.some_queue c.unused)
        (begun_move (begun 1 E1 q n) c.low c.idle c.frames_are (omega arith) refl)

    dequeue_moved : (q : Queue) → dequeue_of t l q ≡ (says tt, u) → Moved t u begins
    dequeue_moved q h =
        let c = can_dequeue s t k.sized l q u h in
        begun_moved (dequeue_begun (state_of s t) l.0 q.0) (dequeue_kept s t k.fronts k.sized k.world l q u h)
        (dequeue_state s t l q u c)
        (λ w p. all_dequeue s (state_of s t) k.fronts k.world w p l.0 q.0 c.idle)
        (begun_move (begun 2 D1 q (node 0)) c.low c.idle c.frames_are (omega arith) refl)

  -- ---- an accepted call

  pub accepted_moved : (t u : List ℕ) (e : Event) → Good s v t → AllFew s v (state_of s t) → Accepted t u e → Moved t u (effect e)
  accepted_moved t u e k few (enqueue {l = l} {q = q} {n = n} h) = enqueue_moved t u k l q n h
  accepted_moved t u e k few (dequeue {l = l} {q = q} h) = dequeue_moved t u k l q h
  accepted_moved t u e k few (step {x = x} h) = by (step_taken s t k.fronts k.sized k.world)
    where
      by : Outcome s t k.fronts → Moved t u (effect (was_stepped x))
      by (idle e i) = absurd (no_answer (sym e ∙ sym (step_of_holds s t k.sized) ∙ h))
      by (took l y a) =
          let z = same_said (sym a.is ∙ sym (step_of_holds s t k.sized) ∙ h) in
          let m : Moved t a.table (effect (was_stepped x)) =
          subst (λ (w : Step). Moved t a.table (effect (was_stepped w))) z.0 (step_moved t k few l y a) in
          subst (λ (w : List ℕ). Moved t w (effect (was_stepped x))) z.1 m
  accepted_moved t u e k few (run {budget = budget} {x = x} h) =
      let r = run_moved budget 0 t k few in
      let z = same_said (sym r.is ∙ sym (run_of_holds s budget t k.sized) ∙ h) in
      let c : 0 + r.count ≡ r.count = omega arith in
      subst (λ (y : Run). Moved t u (effect (ran budget y))) z.0 (rw (c, ← z.1) r.moved)
  accepted_moved t u e k few (ask h) =
      record { good = subst (Good s v) h k; move = rests (ap (frames s) h) }

  -- ---- a history

  -- the moves of a history, call by call
  pub data Moves : List ℕ → List Event → List ℕ → Type 0 where
    done : {t u : List ℕ} → t ≡ u → Moves t [] u
    also : {t u w : List ℕ} {e : Event} {es : List Event} → Moved t u (effect e) → Moves u es w → Moves t (e ∷ es) w

  pub history_moves : (t u : List ℕ) (es : List Event) → Good s v t → Bounded s v (begun_in es) t → History t es u → Moves t es u
  history_moves t u es k b (none h) = done h
  history_moves t w es k b (call {u = u} {e = e} {es = fs} a h) =
      let m = accepted_moved t u e k (few_now s v _ t k.fronts k.world b) a in
      let kept = accepted_kept s t u e k.fronts k.sized k.world a in
      also m (history_moves u w fs m.good (bounded_then s v (begun_in fs) t u k.fronts e (λ q. returned_by q e) kept b) h)
