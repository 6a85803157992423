use Rattle.std.specs.Prelude.{◌≡◌, ◌≤◌, ◌-◌, Some}
use Rattle.words.specs.Layout.{measured}
use Rattle.steps.specs.Step.{serving}
use Rattle.steps.specs.Whole.{ran_from}
use Rattle.steps.proofs.run_levels.Given as goal

abbrev pub invariant-loop-left : goal.invariant-loop-left
invariant-loop-left l =
    record {
      low : l.left ≤ l.budget;
      sized : measured l.t ≡ Some l.s;
      top_le : l.top ≤ l.s.levels;
      serves : serving l.s l.t l.s.levels ≡ serving l.s l.t l.top;
      ran : ran_from l.whole l.s l.budget 0 l.initial.t ≡ ran_from l.whole l.s l.left (l.budget - l.left) l.t;
    }

abbrev pub decreases-loop-left : goal.decreases-loop-left
decreases-loop-left l = l.left
