-- A step that goes on keeps its frame sound: op and queue stay as they are, and an enqueue stays at the E points.
use Prim.Native.Nat.{ℕ, ◌≤◌}
use Rattle.std.proofs.Math.Path.{◌≡◌, refl, ap}
use Rattle.std.proofs.Common.{sym, eqb-true}
use mathlib.Core.List.{List, [], ◌∷◌}
use Rattle.std.specs.Prelude.{Bool, cond, ◌&&◌, length, eqb, Option, Some, None}
use Rattle.std.proofs.Math.Bool.{true, false, not}
use Rattle.std.proofs.lemmas.Bool.{false≢true}
use Rattle.std.proofs.Math.Dec.{leb}
use Rattle.words.specs.declared.Level.{Level}
use Rattle.words.specs.declared.Sizes.{Sizes}
use Rattle.words.specs.declared.Frame.{Frame}
use Rattle.words.specs.declared.Word.TheVariants as word
use Rattle.words.specs.Layout.{level, words, within, has, rd, wr}
use Rattle.words.specs.Laws.{and_true}
use Rattle.table.specs.Points as point
use Rattle.table.specs.Points.{Point, D1, number_of, point_in, point_of, points}
use Rattle.table.specs.Frames.{below_k_to, below_m_to, walk_to}
use Rattle.table.specs.Table.{Row, loads, stores, frees, nothing, row}
use Rattle.table.specs.Turn.{turned}
use Rattle.table.specs.Laws.{if_of, either}
use Rattle.table.specs.declared.After.{After}
use Rattle.table.specs.declared.After.TheVariants.{Go, Done}
use Rattle.steps.specs.Step.{strays, sound}
use Rattle.steps.specs.Held.{Going, followed, turn_of, held}
use Rattle.steps.specs.Keeping.{kind, held_goes}

-- whether it goes on at a D point
unfoldable late : After → Bool
late (Go g) = leb (number_of D1) g.point
late (Done n) = false

unfoldable late_of : ℕ → Row → Bool
late_of x (loads w after) = late (after x)
late_of x (stores w v after) = late after
late_of x (frees n after) = late after
late_of x nothing = false

-- of an enqueue at an E point
row_early : (p : Point) (f : Frame) (l top : Level) (x : ℕ) → f.op ≡ 1 → leb (number_of D1) f.point ≡ false
    → leb (number_of D1) (number_of p) ≡ false → late_of x (row p f l top) ≡ false
unfolding late_of late row below_k_to below_m_to walk_to
row_early =
    elim [
      | point.E1 ↦ λ f l top x one low at. refl
      | point.E2 ↦ λ f l top x one low at. simp (if_of late, either, low)
      | point.E3 ↦ λ f l top x one low at. simp (if_of late, either, low)
      | point.E4 ↦ λ f l top x one low at. refl
      | point.E5 ↦ λ f l top x one low at. simp (if_of late, either, low)
      | point.E6 ↦ λ f l top x one low at. simp (if_of late, either, low)
      | point.E7 ↦ λ f l top x one low at. refl
      | point.E8 ↦ λ f l top x one low at. simp (if_of late, either, low)
      | point.E9 ↦ λ f l top x one low at. refl
      | point.E10 ↦ λ f l top x one low at. simp (if_of late, either, low)
      | point.E11 ↦ λ f l top x one low at. refl
      | point.E12 ↦ λ f l top x one low at. refl
      | point.E13 ↦ λ f l top x one low at. simp (if_of late, either, low)
      | point.E14 ↦ λ f l top x one low at. simp (if_of late, either, low)
      | point.E15 ↦ λ f l top x one low at. refl
      | point.E16 ↦ λ f l top x one low at. simp (if_of late, either, low)
      | point.E17 ↦ λ f l top x one low at. refl
      | point.E18 ↦ λ f l top x one low at. refl
      | point.E19 ↦ λ f l top x one low at. simp (if_of late, either, low)
      | point.E20 ↦ λ f l top x one low at. refl
      | point.E21 ↦ λ f l top x one low at. refl
      | point.E22 ↦ λ f l top x one low at. refl
      | point.E23 ↦ λ f l top x one low at. simp (if_of late, either, low)
      | point.E24 ↦ λ f l top x one low at. refl
      | point.E25 ↦ λ f l top x one low at. simp (if_of late, either, low)
      | point.E26 ↦ λ f l top x one low at. refl
      | point.E27 ↦ λ f l top x one low at. refl
      | point.E28 ↦ λ f l top x one low at. refl
      | point.E29 ↦ λ f l top x one low at. simp (if_of late, one)
      | point.D1 ↦ λ f l top x one low at. absurd (false≢true (sym at))
      | point.D2 ↦ λ f l top x one low at. absurd (false≢true (sym at))
      | point.D3 ↦ λ f l top x one low at. absurd (false≢true (sym at))
      | point.D4 ↦ λ f l top x one low at. absurd (false≢true (sym at))
      | point.D5 ↦ λ f l top x one low at. absurd (false≢true (sym at))
      | point.D6 ↦ λ f l top x one low at. absurd (false≢true (sym at))
      | point.D7 ↦ λ f l top x one low at. absurd (false≢true (sym at))
      | point.Unknown ↦ λ f l top x one low at. refl
    ]

point_early : (xs : List Point) (n : ℕ) → leb (number_of D1) n ≡ false → leb (number_of D1) (number_of (point_in xs n)) ≡ false
point_early [] n h = refl
point_early (x ∷ xs) n h = by (eqb n (number_of x)) refl (point_early xs n h)
  where
    by : (b : Bool) → eqb n (number_of x) ≡ b → leb (number_of D1) (number_of (point_in xs n)) ≡ false
        → leb (number_of D1) (number_of (cond b x (point_in xs n))) ≡ false
    by true e again = rw (eqb-true n (number_of x) e) at h
    by false e again = again

module _ (s : Sizes) (t : List ℕ) where
  late_next : (a : After) (g : Frame) → late a ≡ false → ◌≡◌ {A = Option After} (Some a) (Some (Go g)) → leb (number_of D1) g.point ≡ false
  unfolding late
  late_next a g h e = let z : a ≡ Go g = cc in rw z at h

  stray_next : (g : Frame) → ◌≡◌ {A = Option After} None (Some (Go g)) → ⊥
  stray_next g e = cc

  turned_early : (r : Row) (g : Frame) → ((x : ℕ) → late_of x r ≡ false) → (turned s t r).0 ≡ Some (Go g)
      → leb (number_of D1) g.point ≡ false
  unfolding turned late_of
  turned_early (loads w after) g h = by (has s w)
    where
      by : (b : Bool) → ◌≡◌ {A = Option After} (cond {A = Option After × List ℕ} b (Some (after (rd s t w)), t) (None, t)).0 (Some (Go g))
          → leb (number_of D1) g.point ≡ false
      by true e = late_next (after (rd s t w)) g (h (rd s t w)) e
      by false e = absurd (stray_next g e)
  turned_early (stores w v after) g h = by (has s w)
    where
      by : (b : Bool) → ◌≡◌ {A = Option After} (cond {A = Option After × List ℕ} b (Some after, wr s t w v) (None, t)).0 (Some (Go g))
          → leb (number_of D1) g.point ≡ false
      by true e = late_next after g (h 0) e
      by false e = absurd (stray_next g e)
  turned_early (frees n after) g h = by (has s (word.Next n))
    where
      u : List ℕ
      u = wr s (wr s t (word.Next n) 0) (word.Use n) 0

      by : (b : Bool) → ◌≡◌ {A = Option After} (cond {A = Option After × List ℕ} b (Some after, u) (None, t)).0 (Some (Go g))
          → leb (number_of D1) g.point ≡ false
      by true e = late_next after g (h 0) e
      by false e = absurd (stray_next g e)
  turned_early nothing g h = λ e. absurd (stray_next g e)

  module _ (l : Level) (f g : Frame) (u : List ℕ) (room : words s ≤ length t) (before : sound s f ≡ true)
      (next : turn_of s t l f ≡ (Some (Go g), u)) where
    kinds : kind g ≡ kind f
    unfolding held followed
    kinds =
        let goes : held s t l f ≡ (Going g, u) = rw (before, next) refl in
        (held_goes s t room l f g u goes).kinds

    early : f.op ≡ 1 → leb (number_of D1) f.point ≡ false → leb (number_of D1) g.point ≡ false
    unfolding point_of
    early one low =
        let p = point_of f.point in
        turned_early (row p f l (level s.levels)) g
        (λ x. row_early p f l (level s.levels) x one low (point_early points f.point low))
        (ap (λ (x : Option After × List ℕ). x.0) next)

    still : (b c : Bool) → eqb f.op 1 ≡ b → leb (number_of D1) f.point ≡ c → not (b && c) ≡ true
        → not (b && leb (number_of D1) g.point) ≡ true
    still true true e i h = absurd (false≢true h)
    still true false e i h = rw (early (eqb-true f.op 1 e) i) refl
    still false c e i h = refl

    pub sound_kept : sound s g ≡ true
    unfolding sound strays
    sound_kept =
        let op : g.op ≡ f.op = ap (λ (x : ℕ × ℕ). x.0) kinds in
        let queue : g.queue.0 ≡ f.queue.0 = ap (λ (x : ℕ × ℕ). x.1) kinds in
        let two = and_true (leb f.op 2 && not (strays f)) (within 1 s.queues f.queue.0) before in
        let one = and_true (leb f.op 2) (not (strays f)) two.0 in
        rw (op, queue, one.0, two.1, still (eqb f.op 1) (leb (number_of D1) f.point) refl refl one.1) refl
