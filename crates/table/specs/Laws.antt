-- The points by their numbers, and the branches of the step table.
use Rattle.std.specs.Prelude.{ℕ, ◌≡◌, refl, List, [], ◌∷◌, Bool, true, false, cond, eqb}
use Rattle.std.proofs.Common.{eq-eqb, ne_eqb}
use Rattle.table.specs.declared.After.{After}
use Rattle.table.specs.Frames.{if_eq}
use Rattle.table.specs.Points as point
use Rattle.table.specs.Points.{Point, Unknown, number_of, point_in, point_of}

-- a point's number stands for it
back : (x : Point) → point_of (number_of x) ≡ x
unfolding point_of
back =
    elim [
      | point.E1 ↦ refl
      | point.E2 ↦ refl
      | point.E3 ↦ refl
      | point.E4 ↦ refl
      | point.E5 ↦ refl
      | point.E6 ↦ refl
      | point.E7 ↦ refl
      | point.E8 ↦ refl
      | point.E9 ↦ refl
      | point.E10 ↦ refl
      | point.E11 ↦ refl
      | point.E12 ↦ refl
      | point.E13 ↦ refl
      | point.E14 ↦ refl
      | point.E15 ↦ refl
      | point.E16 ↦ refl
      | point.E17 ↦ refl
      | point.E18 ↦ refl
      | point.E19 ↦ refl
      | point.E20 ↦ refl
      | point.E21 ↦ refl
      | point.E22 ↦ refl
      | point.E23 ↦ refl
      | point.E24 ↦ refl
      | point.E25 ↦ refl
      | point.E26 ↦ refl
      | point.E27 ↦ refl
      | point.E28 ↦ refl
      | point.E29 ↦ refl
      | point.D1 ↦ refl
      | point.D2 ↦ refl
      | point.D3 ↦ refl
      | point.D4 ↦ refl
      | point.D5 ↦ refl
      | point.D6 ↦ refl
      | point.D7 ↦ refl
      | point.Unknown ↦ refl
    ]

pub point_is : (x : Point) (n : ℕ) → n ≡ number_of x → point_of n ≡ x
point_is x n h = rw h (back x)

-- the number of none of these points, in the form in which a match's last arm says it
abbrev NoneOf : ℕ → Type 0 → List Point → Type 0
NoneOf n A [] = A
NoneOf n A (x ∷ xs) = NoneOf n (A × (n ≡ number_of x → ⊥)) xs

none_in : (n : ℕ) (A : Type 0) (xs : List Point) → NoneOf n A xs → A × (point_in xs n ≡ Unknown)
none_in n A [] h = (h, refl)
none_in n A (x ∷ xs) h =
    let r = none_in n (A × (n ≡ number_of x → ⊥)) xs h in
    let e : eqb n (number_of x) ≡ false = ne_eqb n (number_of x) r.0.1 in
    (r.0.0, rw e r.1)

pub none_of : (xs : List Point) (n : ℕ) → NoneOf n (Unit {0}) xs → point_in xs n ≡ Unknown
none_of xs n h = (none_in n (Unit {0}) xs h).1

-- a branch of the step table, by what it tests
pub if_same : (a b : ℕ) (x y : After) → a ≡ b → if_eq a b x y ≡ x
unfolding if_eq
if_same a b x y e = simp (eq-eqb a b e)

pub if_other : (a b : ℕ) (x y : After) → (a ≡ b → ⊥) → if_eq a b x y ≡ y
unfolding if_eq
if_other a b x y n = simp (ne_eqb a b n)

-- what is worked out of a branch
pub if_of : {A : Type 0} (f : After → A) (a b : ℕ) (x y : After) → f (if_eq a b x y) ≡ cond (eqb a b) (f x) (f y)
unfolding if_eq
if_of {A} f a b x y = by (eqb a b)
  where
    by : (c : Bool) → f (cond c x y) ≡ cond {A = A} c (f x) (f y)
    by true = refl
    by false = refl

pub either : {A : Type 0} (b : Bool) (x : A) → cond b x x ≡ x
either true x = refl
either false x = refl
