use Rattle.search.proofs.Emits.{ends_so, cut_so}
use borrow.Author.Rules.{rules}
use Rattle.search.proofs.Search.emit_tail.Goals as goal

pub returns-in-Some-clause-value : goal.returns-in-Some-clause-value
returns-in-Some-clause-value c = ends_so _ _ _ _ _ _ _ (search rules) c.in-Some.is c.emit.ensures.value

pub returns-in_default-clause-value : goal.returns-in_default-clause-value
returns-in_default-clause-value c = cut_so _ _ _ _ _ c.in_default.is
