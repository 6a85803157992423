use Rattle.std.proofs.Common.{◌-◌, ◌≤◌}
use Rattle.asks.specs.Listing.{chain}
use Rattle.asks.specs.Inner.{counted}
use Rattle.asks.specs.Laws.{Counting}
use Rattle.asks.proofs.count_chain.Given as goal

abbrev pub invariant-loop : goal.invariant-loop
invariant-loop l =
    (l.n ≤ l.counter)
    × Counting l.s l.t l.q.0 (l.s.nodes - l.counter) l.c.0 l.n (counted 0 (chain l.s l.t l.q.0 l.s.nodes l.initial.c.0))
