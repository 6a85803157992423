use mathlib.Core.Path.{refl, sym, ◌∙◌}
use Rattle.words.specs.Laws.{told}
use Rattle.conditions.specs.Laws.{some_more, some_none}
use Rattle.conditions.proofs.some_level.Goals as goal

pub returns-then-is_sought : goal.returns-then-is_sought
returns-then-is_sought c = sym (c.loop-i.invariant ∙ some_more _ _ _ _ _ c.loop-i-test.true ∙ simp (told (simp (c.read_frame.ensures, c.narrow.ensures) at c.is_sought.ensures) c.if-is_sought.true))

pub loop-i-preserved : goal.loop-i-preserved
loop-i-preserved c = c.loop-i.invariant ∙ some_more _ _ _ _ _ c.loop-i-test.true ∙ simp (told (simp (c.read_frame.ensures, c.narrow.ensures) at c.is_sought.ensures) c.if-is_sought.false)

pub returns : goal.returns
returns c = sym (c.loop-i.invariant ∙ some_none _ _ _ _ _ c.loop-i-test.false)
