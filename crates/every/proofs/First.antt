-- Steps before begins: of any two listed schedules the earlier takes a step where they first differ, and the later begins.
use Prim.Native.Nat.{ℕ, zero, suc}
use mathlib.Core.Bool.{Bool, true, false, cond}
use mathlib.Core.List.{List, [], ◌∷◌, ◌++◌}
use Rattle.ways.specs.declared.Op.{Op}
use Rattle.ways.specs.Schedules.{stepped, begun, idle, Move, step, begin, ending, after, by_step, by_begin, both}
use Rattle.every.specs.Order.{here, later, BeforeAll, Ordered}

before_append : (xs : List Move) (yss zss : List (List Move)) → BeforeAll xs yss → BeforeAll xs zss → BeforeAll xs (yss ++ zss)
before_append xs [] zss h k = k
before_append xs (ys ∷ yss) zss h k = (h.0, before_append xs yss zss h.1 k)

before_begins : (xs : List Move) (yss : List (List Move)) → BeforeAll (step ∷ xs) (after begin yss)
before_begins xs [] = tt
before_begins xs (ys ∷ yss) = (here, before_begins xs yss)

before_later : (m : Move) (xs : List Move) (yss : List (List Move)) → BeforeAll xs yss → BeforeAll (m ∷ xs) (after m yss)
before_later m xs [] h = tt
before_later m xs (ys ∷ yss) h = (later h.0, before_later m xs yss h.1)

ordered_later : (m : Move) (xss : List (List Move)) → Ordered xss → Ordered (after m xss)
ordered_later m [] h = tt
ordered_later m (xs ∷ xss) h = (before_later m xs xss h.0, ordered_later m xss h.1)

ordered_both : (xss yss : List (List Move)) → Ordered xss → Ordered yss → Ordered (after step xss ++ after begin yss)
ordered_both [] yss h k = ordered_later begin yss k
ordered_both (xs ∷ xss) yss h k = (
  before_append (step ∷ xs) (after step xss) (after begin yss) (before_later step xs xss h.0) (before_begins xs yss),
  ordered_both xss yss h.1 k,
)

-- with an operation still to begin, and with none
ordered_more : (b c : Bool) (xss yss : List (List Move)) → Ordered xss → Ordered yss
    → Ordered (cond b (after step xss) [] ++ cond c (after begin yss) [])
ordered_more true true xss yss h k = ordered_both xss yss h k
ordered_more true false xss yss h k = ordered_both xss [] h tt
ordered_more false true xss yss h k = ordered_later begin yss k
ordered_more false false xss yss h k = tt

ordered_last : (b c : Bool) (xss : List (List Move)) → Ordered xss → Ordered (cond b (after step xss) (cond c ([] ∷ []) []) ++ [])
ordered_last true c xss h = ordered_both xss [] h tt
ordered_last false true xss h = (tt, tt)
ordered_last false false xss h = tt

pub all_ordered : (k : ℕ) (t : List ℕ) (ops : List Op) → Ordered (both k t ops)
unfolding by_step by_begin ending
all_ordered zero t ops = tt
all_ordered (suc k) t [] = ordered_last (stepped t).0 (idle t) (both k (stepped t).1 []) (all_ordered k (stepped t).1 [])
all_ordered (suc k) t (o ∷ os) =
    ordered_more (stepped t).0 (begun o t).0 (both k (stepped t).1 (o ∷ os)) (both k (begun o t).1 os)
    (all_ordered k (stepped t).1 (o ∷ os)) (all_ordered k (begun o t).1 os)
