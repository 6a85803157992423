-- The points: their names, and the numbers that they are stored as.
use Rattle.std.specs.Prelude.{ℕ, List, [], ◌∷◌, cond, eqb}

pub data Point : Type 0 where
  E1 E2 E3 E4 E5 E6 E7 E8 E9 E10 E11 E12 E13 E14 E15 E16 E17 E18 E19 E20 E21 E22 E23 E24 E25 E26 E27 E28 E29 : Point
  D1 D2 D3 D4 D5 D6 D7 : Point
  Unknown : Point

abbrev pub number_of : Point → ℕ
number_of E1 = 1
number_of E2 = 2
number_of E3 = 3
number_of E4 = 4
number_of E5 = 5
number_of E6 = 6
number_of E7 = 7
number_of E8 = 8
number_of E9 = 9
number_of E10 = 10
number_of E11 = 11
number_of E12 = 12
number_of E13 = 13
number_of E14 = 14
number_of E15 = 15
number_of E16 = 16
number_of E17 = 17
number_of E18 = 18
number_of E19 = 19
number_of E20 = 20
number_of E21 = 21
number_of E22 = 22
number_of E23 = 23
number_of E24 = 24
number_of E25 = 25
number_of E26 = 26
number_of E27 = 27
number_of E28 = 28
number_of E29 = 29
number_of D1 = 31
number_of D2 = 32
number_of D3 = 33
number_of D4 = 34
number_of D5 = 35
number_of D6 = 36
number_of D7 = 37
number_of Unknown = 0

-- every point, in document 01's order
abbrev pub points : List Point
points =
    E1 ∷ E2 ∷ E3 ∷ E4 ∷ E5 ∷ E6 ∷ E7 ∷ E8 ∷ E9 ∷ E10 ∷ E11 ∷ E12 ∷ E13 ∷ E14 ∷ E15 ∷ E16 ∷ E17 ∷ E18 ∷ E19 ∷ E20
    ∷ E21 ∷ E22 ∷ E23 ∷ E24 ∷ E25 ∷ E26 ∷ E27 ∷ E28 ∷ E29 ∷ D1 ∷ D2 ∷ D3 ∷ D4 ∷ D5 ∷ D6 ∷ D7 ∷ []

-- the first point of a list that has this number
abbrev pub point_in : List Point → ℕ → Point
point_in [] n = Unknown
point_in (x ∷ xs) n = cond (eqb n (number_of x)) x (point_in xs n)

-- the point that a number stands for
unfoldable pub point_of : ℕ → Point
point_of n = point_in points n
