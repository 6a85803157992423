-- The steps until nothing runs, by a run that goes on where an operation ends.
use Prim.Native.Nat.{ℕ, zero, suc, ◌+◌}
use Rattle.std.specs.Prelude.{◌≡◌, refl, ◌⊎◌, cond, eqb, Option, Some, None}
use Rattle.std.proofs.Math.Path.{ap}
use Rattle.std.proofs.Common.{◌∙◌, inl, inr}
use mathlib.Core.List.{List}
use Rattle.words.specs.declared.Sizes.{Sizes}
use Rattle.answers.specs.declared.Ran.{Ran}
use Rattle.answers.specs.declared.Why as codes
use Rattle.answers.specs.declared.Why.TheVariants.{Ended, Spent, Idle, Damaged}
use Rattle.answers.specs.Said.{Said, refused, says, Run, after, an_end, spent, nothing_runs, refusal_10, why_says, ran_says}
use Rattle.steps.specs.Step.{Out, step_sized, step_of}
use Rattle.steps.specs.Whole.{whole_on, whole_from}
use Rattle.steps.proofs.Singly.{Kept, step_kept, step_is}
use Rattle.ways.specs.Schedules.{accepts, is_nine, stepped, idle}
use Rattle.ways.specs.Forced.{end_in, TableOf}

-- what such a run says
unfoldable pub tail_of : Said Run → Option ℕ
tail_of (refused r) = None
tail_of (says (after n (an_end e))) = None
tail_of (says (after n spent)) = None
tail_of (says (after n nothing_runs)) = Some n
tail_of (says (after n refusal_10)) = None

-- n steps were taken, and what the next one gives
abbrev end_on : ℕ → ℕ → Out → Option ℕ
end_on left n x = cond (accepts x.0) (end_in left (n + 1) x.1) (cond (is_nine x.0) (Some n) None)

end_step : (left n : ℕ) (t : List ℕ) → end_in (suc left) n t ≡ end_on left n (step_of t)
unfolding end_in stepped idle
end_step left n t = refl

none_left : (n : ℕ) (t : List ℕ) → end_in 0 n t ≡ None
unfolding end_in
none_left n t = refl

module _ (s : Sizes) where
  end_whole : (left n : ℕ) (t : List ℕ) → TableOf s t → end_in left n t ≡ tail_of (whole_from s left n t).0
  unfolding whole_from whole_on tail_of
  end_whole zero n t m = none_left n t
  end_whole (suc left) n t m =
      end_step left n t ∙ ap (end_on left n) (step_is s t m) ∙ by (step_sized s t) (step_kept s t m) (end_whole left (n + 1))
    where
      by : (x : Out) → Kept s x → ((u : List ℕ) → TableOf s u → end_in left (n + 1) u ≡ tail_of (whole_from s left (n + 1) u).0)
          → end_on left n x ≡ tail_of (whole_on n (whole_from s left) x.0 x.1).0
      by (says x, u) h ih = ih u h.sized
      by (refused r, u) h ih = why r h.known
        where
          why : (r : ℕ) → (r ≡ 9) ⊎ (r ≡ 10)
              → end_on left n (refused r, u) ≡ tail_of (says (after n (cond (eqb r 9) nothing_runs refusal_10)))
          why r (inl e) = rw e
          why r (inr e) = rw e

  pub end_ran : (left : ℕ) (t u : List ℕ) (x : Said Run) → TableOf s t → whole_from s left 0 t ≡ (x, u) → end_in left 0 t ≡ tail_of x
  end_ran left t u x m e = end_whole left 0 t m ∙ ap (λ (y : Said Run × List ℕ). tail_of y.0) e

  module _ (left : ℕ) (t u : List ℕ) (r : Ran) (m : TableOf s t) (ran : whole_from s left 0 t ≡ (says (ran_says r), u)) where
    pub end_idle : r.why ≡ Idle → end_in left 0 t ≡ Some r.steps
    unfolding tail_of
    end_idle e = end_ran left t u (says (after r.steps nothing_runs)) m (rw e at ran)

    pub end_none : (r.why ≡ Idle → ⊥) → end_in left 0 t ≡ None
    unfolding tail_of
    end_none h = end_ran left t u (says (ran_says r)) m ran ∙ by r.why h
      where
        by : (w : codes.Why) → (w ≡ Idle → ⊥) → tail_of (says (after r.steps (why_says w))) ≡ None
        by (Ended d) h = refl
        by Spent h = refl
        by Idle h = absurd (h refl)
        by Damaged h = refl
