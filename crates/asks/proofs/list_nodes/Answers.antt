use Rattle.words.specs.Laws.{told}
use Rattle.asks.specs.Listing.{listed}
use Rattle.asks.specs.Laws.{no_head, from_head, listed_broken, listed_short, listed_written}
use borrow.Author.Rules.{rules}
use Rattle.asks.proofs.list_nodes.Goals as goal

pub returns-then-head-eq0 : goal.returns-then-head-eq0
unfolding listed
returns-then-head-eq0 c = rw (no_head c.load.ensures c.if-head-eq0.true)

pub returns-in_default : goal.returns-in_default
returns-in_default c = rw (from_head c.load.ensures c.if-head-eq0.false) (listed_broken _ _ (told c.count_chain.ensures c.in_default.is))

pub returns-then-room-from : goal.returns-then-room-from
returns-then-room-from c = rw (from_head c.load.ensures c.if-head-eq0.false) (listed_short _ _ _ (told c.count_chain.ensures c.in-Some.is) (rw c.from.ensures at c.if-room-from.true))

pub write_chain-requires : goal.write_chain-requires
write_chain-requires c = record { fits = search rules; room_for = (listed_written _ _ _ (told c.count_chain.ensures c.in-Some.is) (rw c.from.ensures at c.if-room-from.false)).0 }

pub returns : goal.returns
returns c = rw (from_head c.load.ensures c.if-head-eq0.false, c.write_chain.ensures) (listed_written _ _ _ (told c.count_chain.ensures c.in-Some.is) (rw c.from.ensures at c.if-room-from.false)).1
