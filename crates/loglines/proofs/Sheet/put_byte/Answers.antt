use Rattle.std.proofs.Common.{refl, lt-ltb, le-ltb}
use Rattle.loglines.specs.Ink.{ink_one, ink}
use Rattle.loglines.proofs.Sheet.put_byte.Goals as goal

pub returns-then-at-self : goal.returns-then-at-self
unfolding ink_one ink
returns-then-at-self c = record { same_room = refl; inked = simp (c.in-Some.is, lt-ltb _ _ c.if-at-self.true) }

pub returns-else-at-self : goal.returns-else-at-self
unfolding ink_one ink
returns-else-at-self c = record { same_room = refl; inked = simp (c.in-Some.is, le-ltb _ _ c.if-at-self.false) }

pub returns-in_default : goal.returns-in_default
unfolding ink_one ink
returns-in_default c = record { same_room = refl; inked = simp c.in_default.is }
