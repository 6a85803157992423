use Rattle.std.proofs.Common.{◌≡◌, ◌+◌, ◌-◌, ◌*◌, ◌≤◌}
use Rattle.std.proofs.lemmas.List.Edits.{sets}
use Rattle.tasks.specs.Parts.{words_from}
use Rattle.tasks.proofs.put_operations.Given as goal

abbrev pub invariant-loop : goal.invariant-loop
invariant-loop l =
    (l.n + 4 * (l.count - l.counter) ≤ 24)
    × (sets l.ops l.n (words_from (l.count - l.counter) l.text l.at) ≡ sets l.initial.ops 0 (words_from l.count l.text l.fn.place))
