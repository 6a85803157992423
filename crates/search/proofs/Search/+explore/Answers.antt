use Rattle.search.proofs.Laws.{step_cut, step_more, step_last, begin_none, begin_cut, begin_more, begin_last, begin_stop}
use Rattle.search.proofs.Laws.{listing_closed, copied, count_more, last_path}
use Prim.Native.Nat.{ℕ, ◌+◌, ◌-◌}
use mathlib.Core.Path.{◌≡◌, refl}
use native.Mathlib.Omega.{arith}
use borrow.Author.Rules.{rules}
use Rattle.search.proofs.Search.+explore.Goals as goal

-- ---- with the next begin

pub explore_begin-returns-then-at-eq0-clause-value : goal.explore_begin-returns-then-at-eq0-clause-value
explore_begin-returns-then-at-eq0-clause-value g t c = begin_none _ _ _ _ _ _ _ _ c.if-at-eq0.true

pub explore_begin-returns-then-not-is_open-clause-value : goal.explore_begin-returns-then-not-is_open-clause-value
explore_begin-returns-then-not-is_open-clause-value g t c = listing_closed _ _ _ _ _ _ (cc)

pub explore_begin-returns-then-not-begin_sized-clause-value : goal.explore_begin-returns-then-not-begin_sized-clause-value
explore_begin-returns-then-not-begin_sized-clause-value g t c =
    begin_stop _ _ _ _ _ _ _ _ _ _ _ _ (omega arith) c.op_in-o.ensures c.if-not-begin_sized.true c.begin_sized.ensures.0

pub explore_begin-emit_tail-requires : goal.explore_begin-emit_tail-requires
explore_begin-emit_tail-requires g t c =
    let pre = c.requires.exploring in copied c.args.self.now.asked _ _ c.requires.table_of (omega (arith, pre))

pub explore_begin-returns-then-at-self-clause-value : goal.explore_begin-returns-then-at-self-clause-value
explore_begin-returns-then-at-self-clause-value g t c =
    let path = last_path c.args.at.path c.args.at.i c.args.at.n c.args.self.now.asked.operations (omega arith) (search rules) in
    begin_last _ _ _ _ _ _ _ _ _ _ _ _ _ _ _ c.if-at-eq0.false (omega arith) c.op_in-o.ensures c.if-not-begin_sized.false
    c.begin_sized.ensures.0 path c.steps_left-tail.ensures c.emit_tail.ensures.value

pub explore_begin-returns-then-k-eq0-clause-value : goal.explore_begin-returns-then-k-eq0-clause-value
explore_begin-returns-then-k-eq0-clause-value g t c =
    begin_cut _ _ _ _ _ _ _ _ _ _ _ _ _ _ _ _ c.if-at-eq0.false (omega arith) (λ h. omega arith) c.op_in-o.ensures
    c.if-not-begin_sized.false c.begin_sized.ensures.0 (count_more _ _ _ (search rules)) c.op_in.ensures c.stretch-k.ensures.t_value
    c.if-k-eq0.true

pub explore_begin-returns-clause-value : goal.explore_begin-returns-clause-value
explore_begin-returns-clause-value g t c =
    let all : ℕ = c.args.self.now.asked.operations in
    let rest : all - (c.args.at.i + 1) ≡ all - c.args.at.i - 1 = omega arith in
    let saved = c.explore_saved.ensures.value in
    let begun = c.explore_begin.ensures.value in
    begin_more _ _ _ _ _ _ _ _ _ _ _ _ _ _ _ _ _ _ _ c.if-at-eq0.false (omega arith) (λ h. omega arith) c.op_in-o.ensures
    c.if-not-begin_sized.false c.begin_sized.ensures.0 (count_more _ _ _ (search rules)) c.op_in.ensures c.stretch-k.ensures.t_value
    c.stretch-k.ensures.fact.0 refl (rw rest at saved) (rw rest at begun)

-- ---- with a step

pub explore_step-returns-then-not-is_open-clause-value : goal.explore_step-returns-then-not-is_open-clause-value
explore_step-returns-then-not-is_open-clause-value g t c = listing_closed _ _ _ _ _ _ (cc)

pub explore_step-returns-then-k-eq0-clause-value : goal.explore_step-returns-then-k-eq0-clause-value
explore_step-returns-then-k-eq0-clause-value g t c =
    step_cut _ _ _ _ _ _ _ _ _ _ _ _ (omega arith) c.op_in-o.ensures c.go_on-k.ensures.t_value c.if-k-eq0.true

pub explore_step-emit_tail-requires : goal.explore_step-emit_tail-requires
explore_step-emit_tail-requires g t c =
    let pre = c.requires.exploring in
    let copies = c.explore_step.ensures.kept.copy in
    copied c.args.self.now.asked _ _ c.requires.table_of.0 (omega (arith, pre, copies, c.try_last-tail.auto.copy))

pub explore_step-returns-then-at-self-clause-value : goal.explore_step-returns-then-at-self-clause-value
explore_step-returns-then-at-self-clause-value g t c =
    let path = last_path c.args.at.path c.args.at.i _ c.args.self.now.asked.operations (omega arith) (search rules) in
    step_last _ _ _ _ _ _ _ _ _ _ _ _ _ _ _ _ _ (omega arith) c.op_in-o.ensures c.go_on-k.ensures.t_value refl
    c.try_last-tail.ensures path c.explore_step.ensures.value c.emit_tail.ensures.value

pub explore_step-returns-else-at-self-clause-value : goal.explore_step-returns-else-at-self-clause-value
explore_step-returns-else-at-self-clause-value g t c =
    step_more _ _ _ _ _ _ _ _ _ _ _ _ _ _ _ (omega arith) c.op_in-o.ensures c.go_on-k.ensures.t_value refl
    c.explore_saved.ensures.value c.explore_begin.ensures.value
