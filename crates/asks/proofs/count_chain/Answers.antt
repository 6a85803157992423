use Rattle.std.proofs.Common.{◌≡◌, ◌+◌, ◌-◌, refl, arith, rules}
use Rattle.std.proofs.Math.Nat.{sub-zero}
use Rattle.words.specs.Laws.{Bound, has_is}
use Rattle.asks.specs.Laws.{counting_long, counting_above, counting_ended, counting_more}
use Rattle.asks.proofs.count_chain.Goals as goal

pub returns-then-c-eq0 : goal.returns-then-c-eq0
returns-then-c-eq0 c = counting_ended c.loop.invariant.1 c.if-c-eq0.true

pub returns-then-s-from : goal.returns-then-s-from
returns-then-s-from c = counting_above c.loop.invariant.1 c.if-c-eq0.false (rw c.from.ensures at c.if-s-from.true)

pub load-requires : goal.load-requires
unfolding Bound
load-requires c = record { fits = search rules; w_value = has_is _ _ (omega arith) }

pub loop-preserved : goal.loop-preserved
loop-preserved c =
    let fewer : c.args.s.nodes - (c.loop.counter + 1) ≡ c.args.s.nodes - c.loop.counter - 1 = omega arith in
    (search rules, rw (fewer, c.load.ensures, c.weight_of-n.ensures.value) (counting_more c.loop.invariant.1 c.if-c-eq0.false (omega arith) (omega arith)))

pub returns-then-c-eq0-2 : goal.returns-then-c-eq0-2
returns-then-c-eq0-2 c = counting_ended c.loop.invariant.1 c.if-c-eq0-2.true

pub returns-else-c-eq0-2 : goal.returns-else-c-eq0-2
returns-else-c-eq0-2 c = counting_long c.loop.invariant.1 c.if-c-eq0-2.false (omega arith)
