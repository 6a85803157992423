use native.Mathlib.Omega.{arith}
use Rattle.words.specs.Layout.{addr}
use Rattle.words.specs.Laws.{Bound, bound}
use Rattle.words.proofs.place.Goals as goal

pub index-requires-in-Head : goal.index-requires-in-Head
unfolding addr Bound
index-requires-in-Head c = (rw c.in-Head.is at (bound _ _ c.requires.w_value)).0

pub index-requires-in-Tail : goal.index-requires-in-Tail
unfolding addr Bound
index-requires-in-Tail c = (rw c.in-Tail.is at (bound _ _ c.requires.w_value)).0

pub index-requires-in-Next : goal.index-requires-in-Next
unfolding addr Bound
index-requires-in-Next c = (rw c.in-Next.is at (bound _ _ c.requires.w_value)).0

pub index-requires-in-Use : goal.index-requires-in-Use
unfolding addr Bound
index-requires-in-Use c = (rw c.in-Use.is at (bound _ _ c.requires.w_value)).0

pub returns-in-LevelNode : goal.returns-in-LevelNode
unfolding addr Bound
returns-in-LevelNode c = rw c.in-LevelNode.is (omega (arith, rw c.in-LevelNode.is at (bound _ _ c.requires.w_value)))

pub returns-in-LevelQueue : goal.returns-in-LevelQueue
unfolding addr Bound
returns-in-LevelQueue c = rw c.in-LevelQueue.is (omega (arith, rw c.in-LevelQueue.is at (bound _ _ c.requires.w_value)))

pub returns-in-Head : goal.returns-in-Head
unfolding addr Bound
returns-in-Head c = rw c.in-Head.is (omega (arith, rw c.in-Head.is at (bound _ _ c.requires.w_value)))

pub returns-in-Tail : goal.returns-in-Tail
unfolding addr Bound
returns-in-Tail c = rw c.in-Tail.is (omega (arith, rw c.in-Tail.is at (bound _ _ c.requires.w_value)))

pub returns-in-Next : goal.returns-in-Next
unfolding addr Bound
returns-in-Next c = rw c.in-Next.is (omega (arith, rw c.in-Next.is at (bound _ _ c.requires.w_value)))

pub returns-in-Use : goal.returns-in-Use
unfolding addr Bound
returns-in-Use c = rw c.in-Use.is (omega (arith, rw c.in-Use.is at (bound _ _ c.requires.w_value)))
