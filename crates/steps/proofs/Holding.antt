-- What a run that holds its frame beside the table, its steps uncounted, knows after each step.
use Rattle.std.specs.Prelude.{ℕ, ◌+◌, ◌-◌, ◌≤◌, ◌<◌, ◌≡◌, true, false, length, Option, Some, None}
use Rattle.std.proofs.Math.Path.{refl, ap, sym}
use Rattle.std.proofs.Common.{◌∙◌, arith}
use mathlib.Core.List.{List}
use Rattle.words.specs.declared.Level.{Level}
use Rattle.words.specs.declared.Node.{Node}
use Rattle.words.specs.declared.Sizes.{Sizes}
use Rattle.words.specs.declared.Frame.{Frame}
use Rattle.words.specs.Layout.{words, frame_of, put_frame, no_frame}
use Rattle.words.specs.Laws.{put_own}
use Rattle.answers.specs.Said.{says, after, an_end, spent, refusal_10}
use Rattle.table.specs.Frames.{counted}
use Rattle.table.specs.declared.After.{After}
use Rattle.table.specs.declared.After.TheVariants.{Go, Done}
use Rattle.steps.specs.Step.{serving, sound, end_of}
use Rattle.steps.specs.Run.{ran_on, run_from}
use Rattle.steps.specs.Held.{Held, Damaged, followed, turn_of, held, back, set_steps, later}
use Rattle.steps.proofs.Laws.{run_held, serving_below}
use Rattle.steps.specs.Keeping.{serving_kept}
use Rattle.steps.specs.Counting.{turned_with, turn_held, sound_counted}
use Rattle.steps.specs.Soundness.{sound_kept}

-- the run from t₀, where the steps word was first, goes on from t with its frame f counted and put back, and serves l
pub record Holding (s : Sizes) (l : Level) (budget : ℕ) (t₀ : List ℕ) (first n : ℕ) (t : List ℕ) (f : Frame) : Type 0 where
  pub run : run_from s budget 0 t₀ ≡ run_from s (budget - n) n (put_frame s t l (set_steps (later first n) f))
  pub serves : serving s (put_frame s t l (set_steps (later first n) f)) s.levels ≡ Some l
  pub sounds : sound s f ≡ true

module _ (s : Sizes) (l : Level) (budget : ℕ) (t : List ℕ) (f : Frame) (own : f ≡ frame_of s t l)
    (served : serving s t s.levels ≡ Some l) where
  same : put_frame s t l f ≡ t
  same = rw own (put_own s t l)

  pub holding_start : sound s f ≡ true → Holding s l budget t f.steps 0 t f
  unfolding later
  holding_start h =
      let all : budget ≡ budget - 0 = omega arith in
      record {
        run =
            ap (λ (i : ℕ). run_from s i 0 t) all ∙ sym (ap (λ (u : List ℕ). run_from s (budget - 0) 0 u) same);
        serves = ap (λ (u : List ℕ). serving s u s.levels) same ∙ served;
        sounds = h;
      }

  pub holding_none : sound s f ≡ false → words s ≤ length t → 0 < budget → run_from s budget 0 t ≡ (says (after 0 refusal_10), t)
  unfolding held back ran_on
  holding_none h room p =
      let damaged : held s t l (counted f) ≡ (Damaged, t) = rw (sound_counted s f ∙ h) refl in
      let here : serving s (put_frame s t l f) s.levels ≡ Some l = ap (λ (u : List ℕ). serving s u s.levels) same ∙ served in
      let below = serving_below s t s.levels l served in
      sym (ap (λ (u : List ℕ). run_from s budget 0 u) same)
      ∙ run_held s budget (budget - 1) 0 t t l f Damaged room below here refl p damaged
      ∙ ap (λ (u : List ℕ). (says (after 0 refusal_10), u)) same

module _ {s : Sizes} {l : Level} {budget : ℕ} {t₀ : List ℕ} {first n : ℕ} {t : List ℕ} {f : Frame}
    (i : Holding s l budget t₀ first n t f) where
  -- the budget is spent
  pub holding_spent : budget ≡ n
      → run_from s budget 0 t₀ ≡ (says (after budget spent), put_frame s t l (set_steps (later first budget) f))
  unfolding run_from
  holding_spent z =
      let none : n - n ≡ 0 = omega arith in
      rw z (rw z at i.run ∙ ap (λ (j : ℕ). run_from s j n (put_frame s t l (set_steps (later first n) f))) none)

  module _ (room : words s ≤ length t) (more : n < budget) where
    below : l.0 < s.levels
    below = serving_below s (put_frame s t l (set_steps (later first n) f)) s.levels l i.serves

    -- what the held step leaves, by what the frame's turn gave
    abbrev left_of : Option After → Held
    left_of y = followed l (set_steps (later first (n + 1)) f) (turned_with (later first (n + 1)) y)

    module _ (u : List ℕ) (y : Option After) (e : turn_of s t l f ≡ (y, u)) where
      step_is : held s t l (counted (set_steps (later first n) f)) ≡ (left_of y, u)
      step_is = turn_held s t u l f first n y i.sounds e

      -- by the next step, whatever it leaves
      next : run_from s budget 0 t₀
          ≡ ran_on n (run_from s (budget - (n + 1))) (back s l (set_steps (later first n) f) (left_of y) u).0
          (back s l (set_steps (later first n) f) (left_of y) u).1
      next =
          i.run
          ∙ run_held s (budget - n) (budget - (n + 1)) n t u l (set_steps (later first n) f) (left_of y) room below i.serves
          (omega (arith, more)) (omega (arith, more)) step_is

    pub holding_on : (g : Frame) (u : List ℕ) → words s ≤ length u → turn_of s t l f ≡ (Some (Go g), u)
        → Holding s l budget t₀ first (n + 1) u g
    unfolding ran_on back followed
    holding_on g u room' e =
        record {
          run = next u (Some (Go g)) e;
          serves =
              serving_kept s t u l (set_steps (later first n) f) (set_steps (later first (n + 1)) g) room room' below (step_is u (Some (Go g)) e)
              ∙ i.serves;
          sounds = sound_kept s t l f g u room i.sounds e;
        }

    pub holding_ended : (x : Node) (u : List ℕ) → turn_of s t l f ≡ (Some (Done x), u)
        → run_from s budget 0 t₀ ≡ (says (after (n + 1) (an_end (end_of l (set_steps (later first (n + 1)) f) x))), put_frame s u l no_frame)
    unfolding ran_on back followed
    holding_ended x u e = next u (Some (Done x)) e

    pub holding_stray : (u : List ℕ) → turn_of s t l f ≡ (None, u)
        → run_from s budget 0 t₀ ≡ (says (after n refusal_10), put_frame s u l (set_steps (later first n) f))
    unfolding ran_on back followed
    holding_stray u e = next u None e
