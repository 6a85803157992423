use Rattle.std.proofs.Common.{arith}
use Rattle.std.proofs.lemmas.Grind.{common_steps}
use Rattle.text.specs.Laws.{event_told}
use Rattle.text.proofs.event_in.Goals as goal

pub returns-in-69 : goal.returns-in-69
returns-in-69 c = rw (event_told c.args.text.now c.args.place) (grind (arith, common_steps, c.enqueue_in.ensures))

pub returns-in-68 : goal.returns-in-68
returns-in-68 c = rw (event_told c.args.text.now c.args.place) (grind (arith, common_steps, c.dequeue_in.ensures))

pub returns-in-83 : goal.returns-in-83
returns-in-83 c = rw (event_told c.args.text.now c.args.place) (grind (arith, common_steps, c.steps_in.ensures))

pub returns-in_default : goal.returns-in_default
returns-in_default c = rw (event_told c.args.text.now c.args.place) (grind (arith, common_steps))

pub returns-in_default-2 : goal.returns-in_default-2
returns-in_default-2 c = rw (event_told c.args.text.now c.args.place) (grind (arith, common_steps))

pub returns-in_default-3 : goal.returns-in_default-3
returns-in_default-3 c = rw (event_told c.args.text.now c.args.place) (grind (arith, common_steps))

pub returns-in_default-4 : goal.returns-in_default-4
returns-in_default-4 c = rw (event_told c.args.text.now c.args.place) (grind (arith, common_steps))

pub returns-in_default-5 : goal.returns-in_default-5
returns-in_default-5 c = rw (event_told c.args.text.now c.args.place) (grind (arith, common_steps))
