use Rattle.std.proofs.Common.{◌≡◌, ◌+◌, ◌-◌, refl, arith, rules}
use Rattle.std.proofs.Math.Nat.{sub-zero}
use Rattle.asks.specs.Laws.{writing_ended, writing_done, goes}
use Rattle.asks.proofs.write_chain.Goals as goal

pub returns-then-c-eq0 : goal.returns-then-c-eq0
returns-then-c-eq0 c = writing_ended c.loop.invariant.1 c.if-c-eq0.true

pub put_node-at-requires : goal.put_node-at-requires
put_node-at-requires c = (goes c.loop.invariant.1 c.if-c-eq0.false).place

pub load-requires : goal.load-requires
load-requires c = record { fits = search rules; w_value = (goes c.loop.invariant.1 c.if-c-eq0.false).a_node }

pub loop-preserved : goal.loop-preserved
loop-preserved c =
    let fewer : c.args.s.nodes - (c.loop.counter + 1) ≡ c.args.s.nodes - c.loop.counter - 1 = omega arith in
    (search rules, rw (fewer, c.load.ensures, c.put_node-at.ensures.0, c.put_node-at.ensures.1) (goes c.loop.invariant.1 c.if-c-eq0.false).more)

pub returns : goal.returns
returns c = writing_done c.loop.invariant.1 (omega arith)
