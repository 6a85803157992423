-- The steps word takes no part in a step: a run may hold its frame uncounted and count all its steps at the end.
use Prim.Native.Nat.{ℕ, zero, suc, ◌+◌, ◌≤◌}
use Rattle.std.proofs.Math.Path.{◌≡◌, refl}
use Rattle.std.proofs.Common.{ap, ◌∙◌, arith, add-one, lt-ltb, le-ltb, leb-true, leb-false}
use mathlib.Core.List.{List}
use Rattle.std.specs.Prelude.{min, Bool, cond, leb, ltb, Option, Some, None}
use Rattle.std.proofs.Math.Bool.{true, false}
use Rattle.words.specs.declared.Level.{Level}
use Rattle.words.specs.declared.Sizes.{Sizes}
use Rattle.words.specs.declared.Frame.{Frame}
use Rattle.words.specs.declared.Node.{Node}
use Rattle.words.specs.declared.Word.{Word}
use Rattle.words.specs.declared.Word.TheVariants as word
use Rattle.words.specs.Layout.{level, has, rd, wr}
use Rattle.table.specs.Points as point
use Rattle.table.specs.Points.{Point, point_of}
use Rattle.table.specs.Frames.{counted, if_eq, below_k_to, below_m_to, walk_to}
use Rattle.table.specs.Table.{loads, stores, frees, nothing, row}
use Rattle.table.specs.Turn.{turned}
use Rattle.table.specs.Laws.{if_of}
use Rattle.table.specs.declared.After.{After}
use Rattle.table.specs.declared.After.TheVariants.{Go, Done}
use Rattle.steps.specs.Step.{strays, sound}
use Rattle.steps.specs.Held.{followed, turn_of, held, set_steps, later}

pub later_fits : (a n : ℕ) → a + n ≤ 65535 → later a n ≡ a + n
unfolding later
later_fits a zero h = omega arith
later_fits a (suc n) h =
    let ih : later a n ≡ a + n = later_fits a n (omega arith) in
    let small : ltb (later a n) 65535 ≡ true = lt-ltb (later a n) 65535 (omega (arith, ih)) in
    rw small (omega (arith, ih))

pub later_full : (a n : ℕ) → a ≤ 65535 → 65535 ≤ a + n → later a n ≡ 65535
unfolding later
later_full a zero h k = omega arith
later_full a (suc n) h k = by (leb 65535 (a + n)) refl (later_full a n h)
  where
    by : (b : Bool) → leb 65535 (a + n) ≡ b → (65535 ≤ a + n → later a n ≡ 65535)
        → cond (ltb (later a n) 65535) (later a n + 1) (later a n) ≡ 65535
    by true e again =
        let ih : later a n ≡ 65535 = again (leb-true 65535 (a + n) e) in
        let full : ltb (later a n) 65535 ≡ false = le-ltb (later a n) 65535 (omega (arith, ih)) in
        rw full ih
    by false e again =
        let ih : later a n ≡ a + n = later_fits a n (omega (arith, leb-false 65535 (a + n) e)) in
        let small : ltb (later a n) 65535 ≡ true = lt-ltb (later a n) 65535 (omega (arith, ih, leb-false 65535 (a + n) e)) in
        rw small (omega (arith, ih, leb-false 65535 (a + n) e))

pub later_is : (a n : ℕ) → a ≤ 65535 → later a n ≡ min (a + n) 65535
later_is a n h = by (leb (a + n) 65535) refl
  where
    by : (b : Bool) → leb (a + n) 65535 ≡ b → later a n ≡ min (a + n) 65535
    by true e = omega (arith, later_fits a n (leb-true (a + n) 65535 e), leb-true (a + n) 65535 e)
    by false e = omega (arith, later_full a n h (omega (arith, leb-false (a + n) 65535 e)), leb-false (a + n) 65535 e)

-- ---- a row and what follows it, with another steps word

abbrev after_with : ℕ → After → After
after_with v (Go g) = Go (set_steps v g)
after_with v (Done n) = Done n

abbrev pub turned_with : ℕ → Option After → Option After
turned_with v (Some a) = Some (after_with v a)
turned_with v None = None

steps_if : (v a b : ℕ) (x y : After) → after_with v (if_eq a b x y) ≡ if_eq a b (after_with v x) (after_with v y)
unfolding if_eq
steps_if v a b x y = if_of (after_with v) a b x y

module _ (s : Sizes) (t : List ℕ) (v : ℕ) where
  abbrev with : Option After × List ℕ → Option After × List ℕ
  with x = (turned_with v x.0, x.1)

  load_steps : (w : Word) (a b : ℕ → After) → ((x : ℕ) → after_with v (a x) ≡ b x) → turned s t (loads w b) ≡ with (turned s t (loads w a))
  unfolding turned
  load_steps w a b h = by (has s w)
    where
      by : (c : Bool)
          → ◌≡◌ {A = Option After × List ℕ} (cond c (Some (b (rd s t w)), t) (None, t)) (with (cond c (Some (a (rd s t w)), t) (None, t)))
      by true = rw (h (rd s t w)) refl
      by false = refl

  store_steps : (w : Word) (x : ℕ) (a b : After) → after_with v a ≡ b → turned s t (stores w x b) ≡ with (turned s t (stores w x a))
  unfolding turned
  store_steps w x a b h = by (has s w)
    where
      by : (c : Bool)
          → ◌≡◌ {A = Option After × List ℕ} (cond c (Some b, wr s t w x) (None, t)) (with (cond c (Some a, wr s t w x) (None, t)))
      by true = rw h refl
      by false = refl

  free_steps : (n : Node) (a b : After) → after_with v a ≡ b → turned s t (frees n b) ≡ with (turned s t (frees n a))
  unfolding turned
  free_steps n a b h = by (has s (word.Next n))
    where
      u : List ℕ
      u = wr s (wr s t (word.Next n) 0) (word.Use n) 0

      by : (c : Bool) → ◌≡◌ {A = Option After × List ℕ} (cond c (Some b, u) (None, t)) (with (cond c (Some a, u) (None, t)))
      by true = rw h refl
      by false = refl

  nothing_steps : turned s t nothing ≡ with (turned s t nothing)
  unfolding turned
  nothing_steps = refl

  turned_steps : (p : Point) (f : Frame) (l top : Level) → turned s t (row p (set_steps v f) l top) ≡ with (turned s t (row p f l top))
  unfolding row below_k_to below_m_to walk_to
  turned_steps =
      elim [
        | point.E1 ↦ λ f l top. store_steps _ _ _ _ refl
        | point.E2 ↦ λ f l top. store_steps _ _ _ _ (simp steps_if)
        | point.E3 ↦ λ f l top. load_steps _ _ _ (λ x. simp steps_if)
        | point.E4 ↦ λ f l top. load_steps _ _ _ (λ x. refl)
        | point.E5 ↦ λ f l top. load_steps _ _ _ (λ x. simp steps_if)
        | point.E6 ↦ λ f l top. store_steps _ _ _ _ (simp steps_if)
        | point.E7 ↦ λ f l top. load_steps _ _ _ (λ x. refl)
        | point.E8 ↦ λ f l top. load_steps _ _ _ (λ x. simp steps_if)
        | point.E9 ↦ λ f l top. store_steps _ _ _ _ refl
        | point.E10 ↦ λ f l top. load_steps _ _ _ (λ x. simp steps_if)
        | point.E11 ↦ λ f l top. store_steps _ _ _ _ refl
        | point.E12 ↦ λ f l top. store_steps _ _ _ _ refl
        | point.E13 ↦ λ f l top. load_steps _ _ _ (λ x. simp steps_if)
        | point.E14 ↦ λ f l top. load_steps _ _ _ (λ x. simp steps_if)
        | point.E15 ↦ λ f l top. load_steps _ _ _ (λ x. refl)
        | point.E16 ↦ λ f l top. load_steps _ _ _ (λ x. simp steps_if)
        | point.E17 ↦ λ f l top. load_steps _ _ _ (λ x. refl)
        | point.E18 ↦ λ f l top. store_steps _ _ _ _ refl
        | point.E19 ↦ λ f l top. load_steps _ _ _ (λ x. simp steps_if)
        | point.E20 ↦ λ f l top. store_steps _ _ _ _ refl
        | point.E21 ↦ λ f l top. load_steps _ _ _ (λ x. refl)
        | point.E22 ↦ λ f l top. store_steps _ _ _ _ refl
        | point.E23 ↦ λ f l top. load_steps _ _ _ (λ x. simp steps_if)
        | point.E24 ↦ λ f l top. store_steps _ _ _ _ refl
        | point.E25 ↦ λ f l top. load_steps _ _ _ (λ x. simp steps_if)
        | point.E26 ↦ λ f l top. store_steps _ _ _ _ refl
        | point.E27 ↦ λ f l top. store_steps _ _ _ _ refl
        | point.E28 ↦ λ f l top. store_steps _ _ _ _ refl
        | point.E29 ↦ λ f l top. store_steps _ _ _ _ (simp steps_if)
        | point.D1 ↦ λ f l top. load_steps _ _ _ (λ x. refl)
        | point.D2 ↦ λ f l top. load_steps _ _ _ (λ x. simp steps_if)
        | point.D3 ↦ λ f l top. load_steps _ _ _ (λ x. simp steps_if)
        | point.D4 ↦ λ f l top. load_steps _ _ _ (λ x. refl)
        | point.D5 ↦ λ f l top. store_steps _ _ _ _ (simp steps_if)
        | point.D6 ↦ λ f l top. store_steps _ _ _ _ refl
        | point.D7 ↦ λ f l top. free_steps _ _ _ refl
        | point.Unknown ↦ λ f l top. nothing_steps
      ]

sound_steps : (s : Sizes) (f : Frame) (v : ℕ) → sound s (set_steps v f) ≡ sound s f
unfolding sound strays
sound_steps s f v = refl

pub sound_counted : (s : Sizes) (f : Frame) → sound s (counted f) ≡ sound s f
unfolding sound strays counted
sound_counted s f = refl

-- a step that was not counted, n steps after the last that was, is the counted one but for its steps word
pub turn_held : (s : Sizes) (t u : List ℕ) (l : Level) (f : Frame) (a n : ℕ) (y : Option After) → sound s f ≡ true
    → turn_of s t l f ≡ (y, u)
    → held s t l (counted (set_steps (later a n) f))
    ≡ (followed l (set_steps (later a (n + 1)) f) (turned_with (later a (n + 1)) y), u)
unfolding held counted later
turn_held s t u l f a n y h e =
    let v : ℕ = later a (suc n) in
    let stepped : turn_of s t l (set_steps v f) ≡ (turned_with v y, u) =
    turned_steps s t v (point_of f.point) f l (level s.levels) ∙ ap (with s t v) e in
    let same : sound s (set_steps v f) ≡ true = sound_steps s f v ∙ h in
    rw (add-one n, same, stepped) refl
