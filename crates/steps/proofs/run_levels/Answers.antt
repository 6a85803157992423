use Rattle.std.proofs.Common.{◌≡◌, ◌∙◌, refl, sym, ap, ℕ, ◌-◌, arith}
use Rattle.words.specs.Laws.{told}
use Rattle.answers.specs.Said.{says, after, spent}
use Rattle.steps.specs.Step.{serving}
use Rattle.steps.proofs.Levels.{levels_start, levels_none, levels_idle, levels_more, levels_stop}
use Rattle.steps.proofs.Singly.{sized_ended_within, sized_within, ran_kept, run_down}
use Rattle.steps.proofs.run_levels.Goals as goal

pub returns-in_default : goal.returns-in_default
returns-in_default c =
    let i = c.loop-left.invariant in
    i.ran ∙ levels_idle _ c.args.whole _ _ _ c.loop-left-test.true (i.serves ∙ told c.find_served.ensures c.in_default.is)

pub overflow_sub-left : goal.overflow_sub-left
overflow_sub-left c = sized_within _ _ _ _ _ _ c.run_level-ran.ensures

pub returns-in_default-why : goal.returns-in_default-why
returns-in_default-why c =
    let i = c.loop-left.invariant in
    i.ran ∙ levels_stop _ c.args.whole _ _ _ _ _ i.low _ (λ e z. absurd (c.in_default-why.not-Ended e z)) c.run_level-ran.ensures

pub returns-then-not-whole : goal.returns-then-not-whole
returns-then-not-whole c =
    let i = c.loop-left.invariant in
    i.ran ∙ levels_stop _ c.args.whole _ _ _ _ _ i.low _ (λ e z. c.if-not-whole.true) c.run_level-ran.ensures

pub loop-left-smaller : goal.loop-left-smaller
loop-left-smaller c =
    let ran = rw c.in-Ended.is at c.run_level-ran.ensures in omega (arith, sized_ended_within _ _ _ _ _ _ ran)

pub loop-left-preserved : goal.loop-left-preserved
loop-left-preserved c =
    let i = c.loop-left.invariant in
    let ran = rw c.in-Ended.is at c.run_level-ran.ensures in
    let down = run_down _ _ _ _ _ _ _ i.sized ran in
    record {
      low = omega (arith, i.low);
      sized = ran_kept _ _ _ _ _ _ i.sized c.run_level-ran.ensures;
      top_le = omega (arith, c.index-top.ensures, down.below);
      serves = down.serves ∙ ap (serving _ _) (sym c.index-top.ensures);
      ran = i.ran ∙ levels_more _ _ _ _ _ _ _ i.low _ ran c.if-not-whole.false;
    }

pub returns : goal.returns
returns c =
    let i = c.loop-left.invariant in
    let none = levels_none c.args.s c.args.whole c.loop-left.left (c.args.budget - c.loop-left.left) c.loop-left.t c.loop-left-test.false in
    let all : c.args.budget - c.loop-left.left ≡ c.args.budget = omega arith in
    i.ran ∙ none ∙ ap (λ (n : ℕ). (says (after n spent), c.loop-left.t)) all
