use Rattle.std.proofs.Common.{◌≡◌, ◌-◌}
use Rattle.schedule.specs.Whole.{rest_by}
use Rattle.schedule.proofs.read_rest.Given as goal

abbrev pub invariant-loop : goal.invariant-loop
invariant-loop g l =
    rest_by g.E.Events.reading (l.count - l.counter) l.text l.at ≡ rest_by g.E.Events.reading l.count l.text l.fn.place
