use Rattle.std.proofs.Common.{◌≡◌, ◌≢◌, arith, rules, eq-eqb, ne_eqb}
use Rattle.std.proofs.lemmas.Grind.{common_steps}
use Rattle.table.specs.Frames.{if_eq, walk_to}
use Rattle.table.specs.Table.{row}
use Rattle.table.specs.Points as point
use Rattle.table.specs.Points.{point_of, points}
use Rattle.table.specs.Laws.{point_is, none_of}
use Rattle.table.specs.Turn.{by_load, by_store, by_no_free, by_free_on, by_nothing}
use Rattle.table.proofs.turn.Goals as goal

-- E1, its word is not there
pub returns-in_err-store-in-1 : goal.returns-in_err-store-in-1
unfolding row
returns-in_err-store-in-1 c =
    simp (point_is point.E1 _ c.in-1.is, by_store _ _ _ _ _ _ c.in_err-store-in-1.ensures, c.from_residual.ensures)

-- E1
pub returns-in_ok-store-in-1 : goal.returns-in_ok-store-in-1
unfolding row
returns-in_ok-store-in-1 c =
    simp (point_is point.E1 _ c.in-1.is, by_store _ _ _ _ _ _ c.in_ok-store-in-1.ensures, c.go.ensures)

-- E2, its word is not there
pub returns-in_err-store-in-2 : goal.returns-in_err-store-in-2
unfolding row
returns-in_err-store-in-2 c =
    simp (point_is point.E2 _ c.in-2.is, by_store _ _ _ _ _ _ c.in_err-store-in-2.ensures, c.from_residual-in_err-store-in-2.ensures)

-- E2
pub returns-in_ok-store-in-2 : goal.returns-in_ok-store-in-2
unfolding row
returns-in_ok-store-in-2 c =
    simp (point_is point.E2 _ c.in-2.is, by_store _ _ _ _ _ _ c.in_ok-store-in-2.ensures, c.below_k.ensures)

-- E3, its word is not there
pub returns-in_err-x-in-3 : goal.returns-in_err-x-in-3
unfolding row
returns-in_err-x-in-3 c =
    simp (point_is point.E3 _ c.in-3.is, by_load _ _ _ _ c.in_err-x-in-3.ensures, c.from_residual-in_err-x-in-3.ensures)

-- E3, x is q
pub returns-then-x-q : goal.returns-then-x-q
unfolding row if_eq
returns-then-x-q c =
    simp (point_is point.E3 _ c.in-3.is, by_load _ _ _ _ c.in_ok-x-in-3.ensures, c.go-then-x-q.ensures, eq-eqb _ _ c.if-x-q.true)

-- E3, x is not q
pub returns-else-x-q : goal.returns-else-x-q
unfolding row if_eq
returns-else-x-q c =
    simp (point_is point.E3 _ c.in-3.is, by_load _ _ _ _ c.in_ok-x-in-3.ensures, c.below_k-else-x-q.ensures, ne_eqb _ _ c.if-x-q.false)

-- E4, its word is not there
pub returns-in_err-x-in-4 : goal.returns-in_err-x-in-4
unfolding row
returns-in_err-x-in-4 c =
    simp (point_is point.E4 _ c.in-4.is, by_load _ _ _ _ c.in_err-x-in-4.ensures, c.from_residual-in_err-x-in-4.ensures)

-- E4
pub returns-in_ok-x-in-4 : goal.returns-in_ok-x-in-4
unfolding row
returns-in_ok-x-in-4 c =
    simp (point_is point.E4 _ c.in-4.is, by_load _ _ _ _ c.in_ok-x-in-4.ensures, c.go-in-4.ensures)

-- E5, its word is not there
pub returns-in_err-x-in-5 : goal.returns-in_err-x-in-5
unfolding row
returns-in_err-x-in-5 c =
    simp (point_is point.E5 _ c.in-5.is, by_load _ _ _ _ c.in_err-x-in-5.ensures, c.from_residual-in_err-x-in-5.ensures)

-- E5, x is p
pub returns-then-x-p : goal.returns-then-x-p
unfolding row if_eq
returns-then-x-p c =
    simp (point_is point.E5 _ c.in-5.is, by_load _ _ _ _ c.in_ok-x-in-5.ensures, c.go-then-x-p.ensures, eq-eqb _ _ c.if-x-p.true)

-- E5, x is not p
pub returns-else-x-p : goal.returns-else-x-p
unfolding row if_eq
returns-else-x-p c =
    simp (point_is point.E5 _ c.in-5.is, by_load _ _ _ _ c.in_ok-x-in-5.ensures, c.below_m.ensures, ne_eqb _ _ c.if-x-p.false)

-- E6, its word is not there
pub returns-in_err-store-in-6 : goal.returns-in_err-store-in-6
unfolding row
returns-in_err-store-in-6 c =
    simp (point_is point.E6 _ c.in-6.is, by_store _ _ _ _ _ _ c.in_err-store-in-6.ensures, c.from_residual-in_err-store-in-6.ensures)

-- E6
pub returns-in_ok-store-in-6 : goal.returns-in_ok-store-in-6
unfolding row
returns-in_ok-store-in-6 c =
    simp (point_is point.E6 _ c.in-6.is, by_store _ _ _ _ _ _ c.in_ok-store-in-6.ensures, c.below_k-in-6.ensures)

-- E7, its word is not there
pub returns-in_err-x-in-7 : goal.returns-in_err-x-in-7
unfolding row
returns-in_err-x-in-7 c =
    simp (point_is point.E7 _ c.in-7.is, by_load _ _ _ _ c.in_err-x-in-7.ensures, c.from_residual-in_err-x-in-7.ensures)

-- E7
pub returns-in_ok-x-in-7 : goal.returns-in_ok-x-in-7
unfolding row
returns-in_ok-x-in-7 c =
    simp (point_is point.E7 _ c.in-7.is, by_load _ _ _ _ c.in_ok-x-in-7.ensures, c.go-in-7.ensures)

-- E8, its word is not there
pub returns-in_err-x-in-8 : goal.returns-in_err-x-in-8
unfolding row
returns-in_err-x-in-8 c =
    simp (point_is point.E8 _ c.in-8.is, by_load _ _ _ _ c.in_err-x-in-8.ensures, c.from_residual-in_err-x-in-8.ensures)

-- E8, x is not 0
pub returns-then-x-ne0 : goal.returns-then-x-ne0
unfolding row if_eq walk_to
returns-then-x-ne0 c =
    simp (point_is point.E8 _ c.in-8.is, by_load _ _ _ _ c.in_ok-x-in-8.ensures, ne_eqb _ _ c.if-x-ne0.true)

-- E8, x is 0
pub returns-else-x-ne0 : goal.returns-else-x-ne0
unfolding row if_eq walk_to
returns-else-x-ne0 c =
    simp (point_is point.E8 _ c.in-8.is, by_load _ _ _ _ c.in_ok-x-in-8.ensures, c.go-else-x-ne0.ensures, eq-eqb _ _ c.if-x-ne0.false)

-- E9, its word is not there
pub returns-in_err-store-in-9 : goal.returns-in_err-store-in-9
unfolding row
returns-in_err-store-in-9 c =
    simp (point_is point.E9 _ c.in-9.is, by_store _ _ _ _ _ _ c.in_err-store-in-9.ensures, c.from_residual-in_err-store-in-9.ensures)

-- E9
pub returns-in_ok-store-in-9 : goal.returns-in_ok-store-in-9
unfolding row
returns-in_ok-store-in-9 c =
    simp (point_is point.E9 _ c.in-9.is, by_store _ _ _ _ _ _ c.in_ok-store-in-9.ensures, c.go-in-9.ensures)

-- E10, its word is not there
pub returns-in_err-x-in-10 : goal.returns-in_err-x-in-10
unfolding row
returns-in_err-x-in-10 c =
    simp (point_is point.E10 _ c.in-10.is, by_load _ _ _ _ c.in_err-x-in-10.ensures, c.from_residual-in_err-x-in-10.ensures)

-- E10, x is not 0
pub returns-then-x-ne0-2 : goal.returns-then-x-ne0-2
unfolding row if_eq walk_to
returns-then-x-ne0-2 c =
    simp (
      point_is point.E10 _ c.in-10.is,
      by_load _ _ _ _ c.in_ok-x-in-10.ensures,
      ne_eqb _ _ c.if-x-ne0-2.true,
    )

-- E10, x is 0
pub returns-else-x-ne0-2 : goal.returns-else-x-ne0-2
unfolding row if_eq walk_to
returns-else-x-ne0-2 c =
    simp (
      point_is point.E10 _ c.in-10.is,
      by_load _ _ _ _ c.in_ok-x-in-10.ensures,
      c.go-else-x-ne0-2.ensures,
      eq-eqb _ _ c.if-x-ne0-2.false,
    )

-- E11, its word is not there
pub returns-in_err-store-in-11 : goal.returns-in_err-store-in-11
unfolding row
returns-in_err-store-in-11 c =
    simp (
      point_is point.E11 _ c.in-11.is,
      by_store _ _ _ _ _ _ c.in_err-store-in-11.ensures,
      c.from_residual-in_err-store-in-11.ensures,
    )

-- E11
pub returns-in_ok-store-in-11 : goal.returns-in_ok-store-in-11
unfolding row
returns-in_ok-store-in-11 c =
    simp (point_is point.E11 _ c.in-11.is, by_store _ _ _ _ _ _ c.in_ok-store-in-11.ensures, c.go-in-11.ensures)

-- E12, its word is not there
pub returns-in_err-store-in-12 : goal.returns-in_err-store-in-12
unfolding row
returns-in_err-store-in-12 c =
    simp (
      point_is point.E12 _ c.in-12.is,
      by_store _ _ _ _ _ _ c.in_err-store-in-12.ensures,
      c.from_residual-in_err-store-in-12.ensures,
    )

-- E12
pub returns-in_ok-store-in-12 : goal.returns-in_ok-store-in-12
unfolding row
returns-in_ok-store-in-12 c =
    simp (point_is point.E12 _ c.in-12.is, by_store _ _ _ _ _ _ c.in_ok-store-in-12.ensures, c.go-in-12.ensures)

-- E13, its word is not there
pub returns-in_err-x-in-13 : goal.returns-in_err-x-in-13
unfolding row
returns-in_err-x-in-13 c =
    simp (point_is point.E13 _ c.in-13.is, by_load _ _ _ _ c.in_err-x-in-13.ensures, c.from_residual-in_err-x-in-13.ensures)

-- E13, x is q
pub returns-then-x-q-2 : goal.returns-then-x-q-2
unfolding row if_eq
returns-then-x-q-2 c =
    simp (point_is point.E13 _ c.in-13.is, by_load _ _ _ _ c.in_ok-x-in-13.ensures, c.go-then-x-q-2.ensures, eq-eqb _ _ c.if-x-q-2.true)

-- E13, x is not q
pub returns-else-x-q-2 : goal.returns-else-x-q-2
unfolding row if_eq
returns-else-x-q-2 c =
    simp (
      point_is point.E13 _ c.in-13.is,
      by_load _ _ _ _ c.in_ok-x-in-13.ensures,
      c.below_m-else-x-q-2.ensures,
      ne_eqb _ _ c.if-x-q-2.false,
    )

-- E14, its word is not there
pub returns-in_err-x-in-14 : goal.returns-in_err-x-in-14
unfolding row
returns-in_err-x-in-14 c =
    simp (point_is point.E14 _ c.in-14.is, by_load _ _ _ _ c.in_err-x-in-14.ensures, c.from_residual-in_err-x-in-14.ensures)

-- E14, x is 0
pub returns-then-x-eq0 : goal.returns-then-x-eq0
unfolding row if_eq
returns-then-x-eq0 c =
    simp (
      point_is point.E14 _ c.in-14.is,
      by_load _ _ _ _ c.in_ok-x-in-14.ensures,
      c.below_m-then-x-eq0.ensures,
      eq-eqb _ _ c.if-x-eq0.true,
    )

-- E14, x is not 0
pub returns-else-x-eq0 : goal.returns-else-x-eq0
unfolding row if_eq
returns-else-x-eq0 c =
    simp (
      point_is point.E14 _ c.in-14.is,
      by_load _ _ _ _ c.in_ok-x-in-14.ensures,
      c.go-else-x-eq0.ensures,
      ne_eqb _ _ c.if-x-eq0.false,
    )

-- E15, its word is not there
pub returns-in_err-x-in-15 : goal.returns-in_err-x-in-15
unfolding row
returns-in_err-x-in-15 c =
    simp (point_is point.E15 _ c.in-15.is, by_load _ _ _ _ c.in_err-x-in-15.ensures, c.from_residual-in_err-x-in-15.ensures)

-- E15
pub returns-in_ok-x-in-15 : goal.returns-in_ok-x-in-15
unfolding row
returns-in_ok-x-in-15 c =
    simp (point_is point.E15 _ c.in-15.is, by_load _ _ _ _ c.in_ok-x-in-15.ensures, c.go-in-15.ensures)

-- E16, its word is not there
pub returns-in_err-x-in-16 : goal.returns-in_err-x-in-16
unfolding row
returns-in_err-x-in-16 c =
    simp (point_is point.E16 _ c.in-16.is, by_load _ _ _ _ c.in_err-x-in-16.ensures, c.from_residual-in_err-x-in-16.ensures)

-- E16, x is p
pub returns-then-x-p-2 : goal.returns-then-x-p-2
unfolding row if_eq
returns-then-x-p-2 c =
    simp (point_is point.E16 _ c.in-16.is, by_load _ _ _ _ c.in_ok-x-in-16.ensures, c.go-then-x-p-2.ensures, eq-eqb _ _ c.if-x-p-2.true)

-- E16, x is not p, x is not 0
pub returns-then-x-ne0-3 : goal.returns-then-x-ne0-3
unfolding row if_eq
returns-then-x-ne0-3 c =
    simp (
      point_is point.E16 _ c.in-16.is,
      by_load _ _ _ _ c.in_ok-x-in-16.ensures,
      ne_eqb _ _ c.if-x-p-2.false,
      ne_eqb _ _ c.if-x-ne0-3.true,
    )

-- E16, x is not p, x is 0, m is L
pub returns-then-eq : goal.returns-then-eq
unfolding row if_eq
returns-then-eq c =
    let h : c.args.f.m.0 ≡ c.args.top.0 = search rules in
    simp (
      point_is point.E16 _ c.in-16.is,
      by_load _ _ _ _ c.in_ok-x-in-16.ensures,
      c.go-then-eq.ensures,
      ne_eqb _ _ c.if-x-p-2.false,
      eq-eqb _ _ c.if-x-ne0-3.false,
      eq-eqb _ _ h,
    )

-- E16, x is not p, x is 0, m is not L
pub returns-else-eq : goal.returns-else-eq
unfolding row if_eq
returns-else-eq c =
    let h : c.args.f.m.0 ≢ c.args.top.0 = grind (arith, common_steps) in
    simp (
      point_is point.E16 _ c.in-16.is,
      by_load _ _ _ _ c.in_ok-x-in-16.ensures,
      c.below_m-else-eq.ensures,
      ne_eqb _ _ c.if-x-p-2.false,
      eq-eqb _ _ c.if-x-ne0-3.false,
      ne_eqb _ _ h,
    )

-- E17, its word is not there
pub returns-in_err-x-in-17 : goal.returns-in_err-x-in-17
unfolding row
returns-in_err-x-in-17 c =
    simp (point_is point.E17 _ c.in-17.is, by_load _ _ _ _ c.in_err-x-in-17.ensures, c.from_residual-in_err-x-in-17.ensures)

-- E17
pub returns-in_ok-x-in-17 : goal.returns-in_ok-x-in-17
unfolding row
returns-in_ok-x-in-17 c =
    simp (point_is point.E17 _ c.in-17.is, by_load _ _ _ _ c.in_ok-x-in-17.ensures, c.go-in-17.ensures)

-- E18, its word is not there
pub returns-in_err-store-in-18 : goal.returns-in_err-store-in-18
unfolding row
returns-in_err-store-in-18 c =
    simp (
      point_is point.E18 _ c.in-18.is,
      by_store _ _ _ _ _ _ c.in_err-store-in-18.ensures,
      c.from_residual-in_err-store-in-18.ensures,
    )

-- E18
pub returns-in_ok-store-in-18 : goal.returns-in_ok-store-in-18
unfolding row
returns-in_ok-store-in-18 c =
    simp (point_is point.E18 _ c.in-18.is, by_store _ _ _ _ _ _ c.in_ok-store-in-18.ensures, c.go-in-18.ensures)

-- E19, its word is not there
pub returns-in_err-x-in-19 : goal.returns-in_err-x-in-19
unfolding row
returns-in_err-x-in-19 c =
    simp (point_is point.E19 _ c.in-19.is, by_load _ _ _ _ c.in_err-x-in-19.ensures, c.from_residual-in_err-x-in-19.ensures)

-- E19, x is not 0
pub returns-then-x-ne0-4 : goal.returns-then-x-ne0-4
unfolding row if_eq walk_to
returns-then-x-ne0-4 c =
    simp (
      point_is point.E19 _ c.in-19.is,
      by_load _ _ _ _ c.in_ok-x-in-19.ensures,
      ne_eqb _ _ c.if-x-ne0-4.true,
    )

-- E19, x is 0
pub returns-else-x-ne0-4 : goal.returns-else-x-ne0-4
unfolding row if_eq walk_to
returns-else-x-ne0-4 c =
    simp (
      point_is point.E19 _ c.in-19.is,
      by_load _ _ _ _ c.in_ok-x-in-19.ensures,
      c.go-else-x-ne0-4.ensures,
      eq-eqb _ _ c.if-x-ne0-4.false,
    )

-- E20, its word is not there
pub returns-in_err-store-in-20 : goal.returns-in_err-store-in-20
unfolding row
returns-in_err-store-in-20 c =
    simp (
      point_is point.E20 _ c.in-20.is,
      by_store _ _ _ _ _ _ c.in_err-store-in-20.ensures,
      c.from_residual-in_err-store-in-20.ensures,
    )

-- E20
pub returns-in_ok-store-in-20 : goal.returns-in_ok-store-in-20
unfolding row
returns-in_ok-store-in-20 c =
    simp (point_is point.E20 _ c.in-20.is, by_store _ _ _ _ _ _ c.in_ok-store-in-20.ensures, c.go-in-20.ensures)

-- E21, its word is not there
pub returns-in_err-x-in-21 : goal.returns-in_err-x-in-21
unfolding row
returns-in_err-x-in-21 c =
    simp (point_is point.E21 _ c.in-21.is, by_load _ _ _ _ c.in_err-x-in-21.ensures, c.from_residual-in_err-x-in-21.ensures)

-- E21
pub returns-in_ok-x-in-21 : goal.returns-in_ok-x-in-21
unfolding row
returns-in_ok-x-in-21 c =
    simp (point_is point.E21 _ c.in-21.is, by_load _ _ _ _ c.in_ok-x-in-21.ensures, c.go-in-21.ensures)

-- E22, its word is not there
pub returns-in_err-store-in-22 : goal.returns-in_err-store-in-22
unfolding row
returns-in_err-store-in-22 c =
    simp (
      point_is point.E22 _ c.in-22.is,
      by_store _ _ _ _ _ _ c.in_err-store-in-22.ensures,
      c.from_residual-in_err-store-in-22.ensures,
    )

-- E22
pub returns-in_ok-store-in-22 : goal.returns-in_ok-store-in-22
unfolding row
returns-in_ok-store-in-22 c =
    simp (point_is point.E22 _ c.in-22.is, by_store _ _ _ _ _ _ c.in_ok-store-in-22.ensures, c.go-in-22.ensures)

-- E23, its word is not there
pub returns-in_err-x-in-23 : goal.returns-in_err-x-in-23
unfolding row
returns-in_err-x-in-23 c =
    simp (point_is point.E23 _ c.in-23.is, by_load _ _ _ _ c.in_err-x-in-23.ensures, c.from_residual-in_err-x-in-23.ensures)

-- E23, x is not 0
pub returns-then-x-ne0-5 : goal.returns-then-x-ne0-5
unfolding row if_eq walk_to
returns-then-x-ne0-5 c =
    simp (
      point_is point.E23 _ c.in-23.is,
      by_load _ _ _ _ c.in_ok-x-in-23.ensures,
      ne_eqb _ _ c.if-x-ne0-5.true,
    )

-- E23, x is 0
pub returns-else-x-ne0-5 : goal.returns-else-x-ne0-5
unfolding row if_eq walk_to
returns-else-x-ne0-5 c =
    simp (
      point_is point.E23 _ c.in-23.is,
      by_load _ _ _ _ c.in_ok-x-in-23.ensures,
      c.go-else-x-ne0-5.ensures,
      eq-eqb _ _ c.if-x-ne0-5.false,
    )

-- E24, its word is not there
pub returns-in_err-store-in-24 : goal.returns-in_err-store-in-24
unfolding row
returns-in_err-store-in-24 c =
    simp (
      point_is point.E24 _ c.in-24.is,
      by_store _ _ _ _ _ _ c.in_err-store-in-24.ensures,
      c.from_residual-in_err-store-in-24.ensures,
    )

-- E24
pub returns-in_ok-store-in-24 : goal.returns-in_ok-store-in-24
unfolding row
returns-in_ok-store-in-24 c =
    simp (point_is point.E24 _ c.in-24.is, by_store _ _ _ _ _ _ c.in_ok-store-in-24.ensures, c.go-in-24.ensures)

-- E25, its word is not there
pub returns-in_err-x-in-25 : goal.returns-in_err-x-in-25
unfolding row
returns-in_err-x-in-25 c =
    simp (point_is point.E25 _ c.in-25.is, by_load _ _ _ _ c.in_err-x-in-25.ensures, c.from_residual-in_err-x-in-25.ensures)

-- E25, x is a
pub returns-then-x-a : goal.returns-then-x-a
unfolding row if_eq
returns-then-x-a c =
    simp (point_is point.E25 _ c.in-25.is, by_load _ _ _ _ c.in_ok-x-in-25.ensures, c.go-then-x-a.ensures, eq-eqb _ _ c.if-x-a.true)

-- E25, x is not a
pub returns-else-x-a : goal.returns-else-x-a
unfolding row if_eq
returns-else-x-a c =
    simp (point_is point.E25 _ c.in-25.is, by_load _ _ _ _ c.in_ok-x-in-25.ensures, c.go-else-x-a.ensures, ne_eqb _ _ c.if-x-a.false)

-- E26, its word is not there
pub returns-in_err-store-in-26 : goal.returns-in_err-store-in-26
unfolding row
returns-in_err-store-in-26 c =
    simp (
      point_is point.E26 _ c.in-26.is,
      by_store _ _ _ _ _ _ c.in_err-store-in-26.ensures,
      c.from_residual-in_err-store-in-26.ensures,
    )

-- E26
pub returns-in_ok-store-in-26 : goal.returns-in_ok-store-in-26
unfolding row
returns-in_ok-store-in-26 c =
    simp (point_is point.E26 _ c.in-26.is, by_store _ _ _ _ _ _ c.in_ok-store-in-26.ensures, c.go-in-26.ensures)

-- E27, its word is not there
pub returns-in_err-store-in-27 : goal.returns-in_err-store-in-27
unfolding row
returns-in_err-store-in-27 c =
    simp (
      point_is point.E27 _ c.in-27.is,
      by_store _ _ _ _ _ _ c.in_err-store-in-27.ensures,
      c.from_residual-in_err-store-in-27.ensures,
    )

-- E27
pub returns-in_ok-store-in-27 : goal.returns-in_ok-store-in-27
unfolding row
returns-in_ok-store-in-27 c =
    simp (point_is point.E27 _ c.in-27.is, by_store _ _ _ _ _ _ c.in_ok-store-in-27.ensures, c.go-in-27.ensures)

-- E28, its word is not there
pub returns-in_err-store-in-28 : goal.returns-in_err-store-in-28
unfolding row
returns-in_err-store-in-28 c =
    simp (
      point_is point.E28 _ c.in-28.is,
      by_store _ _ _ _ _ _ c.in_err-store-in-28.ensures,
      c.from_residual-in_err-store-in-28.ensures,
    )

-- E28
pub returns-in_ok-store-in-28 : goal.returns-in_ok-store-in-28
unfolding row
returns-in_ok-store-in-28 c =
    simp (point_is point.E28 _ c.in-28.is, by_store _ _ _ _ _ _ c.in_ok-store-in-28.ensures, c.go-in-28.ensures)

-- E29, its word is not there
pub returns-in_err-store-in-29 : goal.returns-in_err-store-in-29
unfolding row
returns-in_err-store-in-29 c =
    simp (
      point_is point.E29 _ c.in-29.is,
      by_store _ _ _ _ _ _ c.in_err-store-in-29.ensures,
      c.from_residual-in_err-store-in-29.ensures,
    )

-- E29, op is 1
pub returns-then-f-eq1 : goal.returns-then-f-eq1
unfolding row if_eq
returns-then-f-eq1 c =
    simp (point_is point.E29 _ c.in-29.is, by_store _ _ _ _ _ _ c.in_ok-store-in-29.ensures, eq-eqb _ _ c.if-f-eq1.true)

-- E29, op is not 1
pub returns-else-f-eq1 : goal.returns-else-f-eq1
unfolding row if_eq
returns-else-f-eq1 c =
    simp (
      point_is point.E29 _ c.in-29.is,
      by_store _ _ _ _ _ _ c.in_ok-store-in-29.ensures,
      c.go-else-f-eq1.ensures,
      ne_eqb _ _ c.if-f-eq1.false,
    )

-- D1, its word is not there
pub returns-in_err-x-in-31 : goal.returns-in_err-x-in-31
unfolding row
returns-in_err-x-in-31 c =
    simp (point_is point.D1 _ c.in-31.is, by_load _ _ _ _ c.in_err-x-in-31.ensures, c.from_residual-in_err-x-in-31.ensures)

-- D1
pub returns-in_ok-x-in-31 : goal.returns-in_ok-x-in-31
unfolding row
returns-in_ok-x-in-31 c =
    simp (point_is point.D1 _ c.in-31.is, by_load _ _ _ _ c.in_ok-x-in-31.ensures, c.go-in-31.ensures)

-- D2, its word is not there
pub returns-in_err-x-in-32 : goal.returns-in_err-x-in-32
unfolding row
returns-in_err-x-in-32 c =
    simp (point_is point.D2 _ c.in-32.is, by_load _ _ _ _ c.in_err-x-in-32.ensures, c.from_residual-in_err-x-in-32.ensures)

-- D2, x is c
pub returns-then-x-c : goal.returns-then-x-c
unfolding row if_eq
returns-then-x-c c =
    simp (point_is point.D2 _ c.in-32.is, by_load _ _ _ _ c.in_ok-x-in-32.ensures, eq-eqb _ _ c.if-x-c.true)

-- D2, x is not c
pub returns-else-x-c : goal.returns-else-x-c
unfolding row if_eq
returns-else-x-c c =
    simp (point_is point.D2 _ c.in-32.is, by_load _ _ _ _ c.in_ok-x-in-32.ensures, c.go-else-x-c.ensures, ne_eqb _ _ c.if-x-c.false)

-- D3, its word is not there
pub returns-in_err-x-in-33 : goal.returns-in_err-x-in-33
unfolding row
returns-in_err-x-in-33 c =
    simp (point_is point.D3 _ c.in-33.is, by_load _ _ _ _ c.in_err-x-in-33.ensures, c.from_residual-in_err-x-in-33.ensures)

-- D3, x is 0
pub returns-then-x-eq0-2 : goal.returns-then-x-eq0-2
unfolding row if_eq
returns-then-x-eq0-2 c =
    simp (point_is point.D3 _ c.in-33.is, by_load _ _ _ _ c.in_ok-x-in-33.ensures, eq-eqb _ _ c.if-x-eq0-2.true)

-- D3, x is not 0
pub returns-else-x-eq0-2 : goal.returns-else-x-eq0-2
unfolding row if_eq
returns-else-x-eq0-2 c =
    simp (
      point_is point.D3 _ c.in-33.is,
      by_load _ _ _ _ c.in_ok-x-in-33.ensures,
      c.go-else-x-eq0-2.ensures,
      ne_eqb _ _ c.if-x-eq0-2.false,
    )

-- D4, its word is not there
pub returns-in_err-x-in-34 : goal.returns-in_err-x-in-34
unfolding row
returns-in_err-x-in-34 c =
    simp (point_is point.D4 _ c.in-34.is, by_load _ _ _ _ c.in_err-x-in-34.ensures, c.from_residual-in_err-x-in-34.ensures)

-- D4
pub returns-in_ok-x-in-34 : goal.returns-in_ok-x-in-34
unfolding row
returns-in_ok-x-in-34 c =
    simp (point_is point.D4 _ c.in-34.is, by_load _ _ _ _ c.in_ok-x-in-34.ensures, c.go-in-34.ensures)

-- D5, its word is not there
pub returns-in_err-store-in-35 : goal.returns-in_err-store-in-35
unfolding row
returns-in_err-store-in-35 c =
    simp (point_is point.D5 _ c.in-35.is, by_store _ _ _ _ _ _ c.in_err-store-in-35.ensures, c.from_residual-in_err-store-in-35.ensures)

-- D5, c.0 is q
pub returns-then-c-q : goal.returns-then-c-q
unfolding row if_eq
returns-then-c-q c =
    simp (
      point_is point.D5 _ c.in-35.is,
      by_store _ _ _ _ _ _ c.in_ok-store-in-35.ensures,
      c.go-then-c-q.ensures,
      eq-eqb _ _ c.if-c-q.true,
    )

-- D5, c.0 is not q
pub returns-else-c-q : goal.returns-else-c-q
unfolding row if_eq
returns-else-c-q c =
    simp (
      point_is point.D5 _ c.in-35.is,
      by_store _ _ _ _ _ _ c.in_ok-store-in-35.ensures,
      c.go-else-c-q.ensures,
      ne_eqb _ _ c.if-c-q.false,
    )

-- D6, its word is not there
pub returns-in_err-store-in-36 : goal.returns-in_err-store-in-36
unfolding row
returns-in_err-store-in-36 c =
    simp (point_is point.D6 _ c.in-36.is, by_store _ _ _ _ _ _ c.in_err-store-in-36.ensures, c.from_residual-in_err-store-in-36.ensures)

-- D6
pub returns-in_ok-store-in-36 : goal.returns-in_ok-store-in-36
unfolding row
returns-in_ok-store-in-36 c =
    simp (point_is point.D6 _ c.in-36.is, by_store _ _ _ _ _ _ c.in_ok-store-in-36.ensures, c.go-in-36.ensures)

-- D7, the node is not there
pub returns-in_err-store-in-37 : goal.returns-in_err-store-in-37
unfolding row
returns-in_err-store-in-37 c =
    simp (point_is point.D7 _ c.in-37.is, by_no_free _ _ _ _ c.in_err-store-in-37.ensures, c.from_residual-in_err-store-in-37.ensures)

-- D7, its use is not there
pub returns-in_err-store-in-37-2 : goal.returns-in_err-store-in-37-2
unfolding row
returns-in_err-store-in-37-2 c =
    simp (
      point_is point.D7 _ c.in-37.is,
      by_free_on _ _ _ _ _ _ _ c.in_ok-store-in-37.ensures c.in_err-store-in-37-2.ensures,
      c.from_residual-in_err-store-in-37-2.ensures,
    )

-- D7
pub returns-in_ok-store-in-37-2 : goal.returns-in_ok-store-in-37-2
unfolding row
returns-in_ok-store-in-37-2 c =
    simp (point_is point.D7 _ c.in-37.is, by_free_on _ _ _ _ _ _ _ c.in_ok-store-in-37.ensures c.in_ok-store-in-37-2.ensures)

-- no point
pub returns-in_default : goal.returns-in_default
unfolding row point_of
returns-in_default c = simp (none_of points _ c.in_default.in_default-own.rest, by_nothing)
