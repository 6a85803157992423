-- What a run of the level that is served leaves: every other level's frame; its own op where it goes on, and 0 where it ended.
use Prim.Native.Nat.{ℕ, zero, suc, ◌+◌, ◌≤◌}
use Rattle.std.specs.Prelude.{◌≡◌, refl, ◌≢◌, Bool, cond, eqb, Some}
use Rattle.std.proofs.Math.Path.{ap}
use Rattle.std.proofs.Common.{◌∙◌, arith}
use mathlib.Core.List.{List}
use Rattle.std.proofs.Math.Bool.{true, false}
use Rattle.std.proofs.Math.ListN.{length}
use Rattle.words.specs.declared.Level.{Level}
use Rattle.words.specs.declared.Sizes.{Sizes}
use Rattle.words.specs.declared.Frame.{Frame}
use Rattle.words.specs.Layout.{words, frame_of, put_frame, no_frame}
use Rattle.words.specs.Laws.{frame_same, frame_other, put_length}
use Rattle.answers.specs.Said.{Said, refused, says, Step, going_on, ended, Run, after, an_end, spent, nothing_runs, refusal_10}
use Rattle.table.specs.Frames.{counted}
use Rattle.steps.specs.Step.{Out, serving, step_sized}
use Rattle.steps.specs.Run.{ran_on, run_from}
use Rattle.steps.specs.Held.{Held, Going, Ended, Damaged, held, back}
use Rattle.steps.proofs.Laws.{serving_below}
use Rattle.steps.specs.Keeping.{Left, held_leaves, serving_same}
use Rattle.steps.proofs.After.{served_step, step_steady}

module _ (s : Sizes) (l : Level) where
  -- every other level's frame is as it was
  pub record Aside (t u : List ℕ) : Type 0 where
    pub long : length u ≡ length t
    pub others : (k : Level) → k.0 ≢ l.0 → frame_of s u k ≡ frame_of s t k

  aside_same : (t : List ℕ) → Aside t t
  aside_same t = record { long = refl; others = λ k ne. refl }

  aside_then : {t u v : List ℕ} → Aside t u → Aside u v → Aside t v
  aside_then a b = record { long = b.long ∙ a.long; others = λ k ne. b.others k ne ∙ a.others k ne }

  -- ---- a step

  -- the level's own frame, by what its step says
  abbrev Own : Said Step → List ℕ → Type 0
  Own (says going_on) u = serving s u s.levels ≡ Some l
  Own (says (ended e)) u = (frame_of s u l).op ≡ 0
  Own (refused r) u = Unit

  record Leaves (t : List ℕ) (x : Out) : Type 0 where
    aside : Aside t x.1
    own : Own x.0 x.1

  module _ (t : List ℕ) (room : words s ≤ length t) (at_l : serving s t s.levels ≡ Some l) where
    abbrev now : Frame
    now = frame_of s t l

    abbrev after_access : List ℕ
    after_access = (held s t l (counted now)).1

    left : Left s t room after_access
    left = held_leaves s t room l (counted now)

    put_aside : (g : Frame) → Aside t (put_frame s after_access l g)
    put_aside g =
        record {
          long = put_length s after_access l g ∙ left.long;
          others = λ k ne. frame_other s after_access l g k ne ∙ left.frames k;
        }

    going_serves : (g : Frame) → (held s t l (counted now)).0 ≡ Going g → serving s (put_frame s after_access l g) s.levels ≡ Some l
    unfolding back
    going_serves g i =
        let went : step_sized s t ≡ (says going_on, put_frame s after_access l g) =
        served_step s t room l at_l ∙ ap (λ (h : Held). back s l now h after_access) i in
        let steady = step_steady s t room (put_frame s after_access l g) went in
        serving_same s t (put_frame s after_access l g) s.levels (λ k. ap (λ (o : ℕ × ℕ). o.0) (steady.kinds k)) ∙ at_l

    step_leaves : Leaves t (step_sized s t)
    unfolding back
    step_leaves = rw (served_step s t room l at_l) (by (held s t l (counted now)).0 refl)
      where
        by : (h : Held) → (held s t l (counted now)).0 ≡ h → Leaves t (back s l now h after_access)
        by (Going g) i = record { aside = put_aside g; own = going_serves g i }
        by (Ended e) i =
            let below = serving_below s t s.levels l at_l in
            let cleared = frame_same s after_access l no_frame (omega (arith, left.long)) below in
            record { aside = put_aside no_frame; own = ap (λ (f : Frame). f.op) cleared }
        by Damaged i = record { aside = put_aside now; own = tt }

  -- ---- a run

  abbrev OwnAfter : Said Run → List ℕ → Type 0
  OwnAfter (refused r) u = Unit
  OwnAfter (says (after n (an_end e))) u = (frame_of s u l).op ≡ 0
  OwnAfter (says (after n spent)) u = serving s u s.levels ≡ Some l
  OwnAfter (says (after n nothing_runs)) u = Unit
  OwnAfter (says (after n refusal_10)) u = Unit

  pub record RanAside (t : List ℕ) (x : Said Run × List ℕ) : Type 0 where
    pub aside : Aside t x.1
    pub own : OwnAfter x.0 x.1

  run_leaves : (budget n : ℕ) (t : List ℕ) → words s ≤ length t → serving s t s.levels ≡ Some l → RanAside t (run_from s budget n t)
  unfolding run_from ran_on
  run_leaves zero n t room at_l = record { aside = aside_same t; own = at_l }
  run_leaves (suc budget) n t room at_l = by (step_sized s t) (step_leaves t room at_l) (run_leaves budget (n + 1))
    where
      by : (x : Out) → Leaves t x
          → ((u : List ℕ) → words s ≤ length u → serving s u s.levels ≡ Some l → RanAside u (run_from s budget (n + 1) u))
          → RanAside t (ran_on n (run_from s budget) x.0 x.1)
      by (says going_on, u) here on =
          let rest = on u (omega (arith, here.aside.long)) here.own in
          record { aside = aside_then here.aside rest.aside; own = rest.own }
      by (says (ended e), u) here on = record { aside = here.aside; own = here.own }
      by (refused r, u) here on = why (eqb r 9)
        where
          why : (b : Bool) → RanAside t (says (after n (cond b nothing_runs refusal_10)), u)
          why true = record { aside = here.aside; own = tt }
          why false = record { aside = here.aside; own = tt }

  pub ran_aside : (budget : ℕ) (t u : List ℕ) (x : Said Run) → words s ≤ length t → serving s t s.levels ≡ Some l
      → run_from s budget 0 t ≡ (x, u) → RanAside t (x, u)
  ran_aside budget t u x room at_l e = rw e at (run_leaves budget 0 t room at_l)
