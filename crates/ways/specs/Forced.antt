-- The ways on which nothing is to be chosen.
use Rattle.std.specs.Prelude.{ℕ, zero, suc, ◌+◌, ◌≤◌, ◌<◌, ◌≡◌, true, cond, List, Option, Some, None}
use Rattle.words.specs.declared.Sizes.{Sizes}
use Rattle.words.specs.Layout.{measured}
use Rattle.ways.specs.declared.Op.{Op}
use Rattle.ways.specs.Schedules.{stepped, begun, idle}

-- steps while the operation is refused: the moves that are left, 0 where nothing runs before it is accepted, and the table
unfoldable pub stretched : Op → ℕ → List ℕ → ℕ × List ℕ
stretched o zero t = (0, t)
stretched o (suc left) t =
    cond (begun o t).0 (suc left, t) (cond (stepped t).0 (stretched o left (stepped t).1) (0, (stepped t).1))

-- one step, and then steps while the operation is refused: the moves that are left, 0 where nothing follows, and the table
unfoldable pub gone_on : Op → ℕ → List ℕ → ℕ × List ℕ
gone_on o zero t = (0, t)
gone_on o (suc left) t = cond (stepped t).0 (stretched o left (stepped t).1) (0, (stepped t).1)

-- n steps were taken: all the steps until nothing runs, where fewer than so many follow
unfoldable pub end_in : ℕ → ℕ → List ℕ → Option ℕ
end_in zero n t = None
end_in (suc left) n t = cond (stepped t).0 (end_in left (n + 1) (stepped t).1) (cond (idle t) (Some n) None)

-- the steps until nothing runs, once the operation has begun
unfoldable pub last_in : Op → ℕ → List ℕ → Option ℕ
last_in o zero t = None
last_in o (suc left) t = cond (begun o t).0 (end_in left 0 (begun o t).1) None

-- ---- what our own functions ask of each other

-- t is a table of these sizes
abbrev pub TableOf : Sizes → List ℕ → Type 0
TableOf s t = measured t ≡ Some s

-- so many moves are left of all, and where there are any the operation is accepted
abbrev pub Open : Op → Sizes → ℕ → ℕ → List ℕ → Type 0
Open o s all left t = (left ≤ all) × TableOf s t × (0 < left → (begun o t).0 ≡ true)
