use Rattle.std.proofs.Common.{◌≡◌, ◌-◌, length}
use Rattle.asks.specs.Listing.{chain}
use Rattle.asks.specs.Inner.{written}
use Rattle.asks.specs.Laws.{Writing}
use Rattle.asks.proofs.write_chain.Given as goal

abbrev pub invariant-loop : goal.invariant-loop
invariant-loop l =
    (length l.room ≡ length l.initial.room)
    × Writing l.s l.t l.q.0 (l.s.nodes - l.counter) l.c.0 l.at l.room (written (chain l.s l.t l.q.0 l.s.nodes l.initial.c.0) 0 l.initial.room)
