use Prim.Native.Nat.{ℕ}
use mathlib.Core.Path.{◌≡◌, refl, ap, ◌∙◌}
use native.Mathlib.Omega.{arith}
use Rattle.words.specs.Laws.{Bound, has_is}
use Rattle.fresh.specs.Fresh.{ended}
use Rattle.fresh.specs.Laws.{ended_more}
use borrow.Author.Rules.{rules}
use Rattle.fresh.proofs.put_ends.Goals as goal

pub store-requires : goal.store-requires
unfolding Bound
store-requires c = record { fits = search rules; w_value = has_is _ _ (search rules) }

pub store-requires-in-loop-i : goal.store-requires-in-loop-i
unfolding Bound
store-requires-in-loop-i c = record { fits = search rules; w_value = has_is _ _ (search rules) }

pub loop-i-init : goal.loop-i-init
unfolding ended
loop-i-init c = (refl, refl)

pub loop-i-preserved : goal.loop-i-preserved
loop-i-preserved c = (search rules, ended_more _ _ _ _ _ _ c.loop-i.invariant.1 (rw c.narrow-q.ensures at c.store.ensures) (rw c.narrow-q.ensures at c.store-in-loop-i.ensures))
