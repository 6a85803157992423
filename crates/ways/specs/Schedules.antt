-- What a schedule of a few operations is: at each moment one step is taken, or the next operation begins if it is accepted.
use Rattle.std.specs.Prelude.{ℕ, zero, suc, ◌+◌, ◌*◌, Bool, true, false, cond, ◌&&◌, List, [], ◌∷◌, ◌++◌, map, get_or, replicate, eqb}
use Rattle.words.specs.declared.Sizes.{Sizes}
use Rattle.words.specs.Layout.{level, queue, node, words}
use Rattle.answers.specs.Said.{Said, refused, says}
use Rattle.begins.specs.Begin.{enqueue_of, dequeue_of}
use Rattle.steps.specs.Step.{step_of}
use Rattle.fresh.specs.Fresh.{fresh_table}
use Rattle.ways.specs.declared.Op.{Op}

-- ---- the operations

-- four words an operation: op, level, queue, node
unfoldable pub op_in : List ℕ → ℕ → Op
op_in ws i =
    record {
      op = get_or ws (4 * i) 0;
      level = level (get_or ws (4 * i + 1) 0);
      queue = queue (get_or ws (4 * i + 2) 0);
      node = node (get_or ws (4 * i + 3) 0);
    }

-- so many operations, from operation i on
unfoldable pub ops_in : ℕ → List ℕ → ℕ → List Op
ops_in zero ws i = []
ops_in (suc rest) ws i = op_in ws i ∷ ops_in rest ws (i + 1)

-- ---- the moves

abbrev pub accepts : {A : Type 0} → Said A → Bool
accepts (refused r) = false
accepts (says x) = true

-- whether a call is accepted, and the table afterwards
abbrev pub Tried : Type 0
Tried = Bool × List ℕ

abbrev pub tried : {A : Type 0} → Said A × List ℕ → Tried
tried x = (accepts x.0, x.1)

unfoldable pub stepped : List ℕ → Tried
stepped t = tried (step_of t)

-- an operation begins: op 1 is an enqueue, op 2 with node 0 a dequeue, and no other is ever accepted
unfoldable pub begun : Op → List ℕ → Tried
begun o t =
    cond (eqb o.op 1) (tried (enqueue_of t o.level o.queue o.node))
    (cond (eqb o.op 2 && eqb o.node.0 0) (tried (dequeue_of t o.level o.queue)) (false, t))

abbrev pub is_nine : {A : Type 0} → Said A → Bool
is_nine (refused r) = eqb r 9
is_nine (says x) = false

-- a step would be refused since nothing runs
unfoldable pub idle : List ℕ → Bool
idle t = is_nine (step_of t).0

-- ---- the schedules

pub data Move : Type 0 where
  step : Move
  begin : Move

-- from the table t, with these operations still to begin: the moves are accepted one by one, and at their end every operation has
-- begun and nothing runs
unfoldable pub is_schedule : List Move → List ℕ → List Op → Bool
is_schedule [] t [] = idle t
is_schedule [] t (o ∷ os) = false
is_schedule (step ∷ ms) t ops = (stepped t).0 && is_schedule ms (stepped t).1 ops
is_schedule (begin ∷ ms) t [] = false
is_schedule (begin ∷ ms) t (o ∷ os) = (begun o t).0 && is_schedule ms (begun o t).1 os

-- ---- all of them

-- no move remains: the one schedule without moves, if it is one
unfoldable pub ending : List ℕ → List Op → List (List Move)
ending t [] = cond (idle t) ([] ∷ []) []
ending t (o ∷ os) = []

abbrev pub after : Move → List (List Move) → List (List Move)
after m mss = map (λ ms. m ∷ ms) mss

-- those of fewer than so many moves that go on with a step or end here; and those that go on with the next begin
unfoldable mutual
  pub by_step : ℕ → List ℕ → List Op → List (List Move)
  by_step zero t ops = []
  by_step (suc left) t ops =
      cond (stepped t).0 (after step (by_step left (stepped t).1 ops ++ by_begin left (stepped t).1 ops)) (ending t ops)

  pub by_begin : ℕ → List ℕ → List Op → List (List Move)
  by_begin zero t ops = []
  by_begin (suc left) t [] = []
  by_begin (suc left) t (o ∷ os) =
      cond (begun o t).0 (after begin (by_step left (begun o t).1 os ++ by_begin left (begun o t).1 os)) []

-- steps before begins
abbrev pub both : ℕ → List ℕ → List Op → List (List Move)
both left t ops = by_step left t ops ++ by_begin left t ops

-- more moves than any schedule of at most six operations has
abbrev pub most_moves : ℕ
most_moves = 1345

abbrev pub fresh : Sizes → List ℕ
fresh s = fresh_table s (replicate (words s) 0)

-- every schedule of these operations from a fresh table, in the order of the list: steps before begins
unfoldable pub schedules : Sizes → List Op → List (List Move)
schedules s ops = both most_moves (fresh s) ops
