use Rattle.std.proofs.Common.{Bool, false, List, get_or, subst}
use Rattle.case_tree.specs.CaseTree.{IsAllowed}
use Rattle.case_search.proofs.learner.Learner.model.Goals as goal

pub returns-then-is_allowed-clause-allowed : goal.returns-then-is_allowed-clause-allowed
returns-then-is_allowed-clause-allowed c =
    subst (λ (xs : List Bool). IsAllowed c.args.clauses.now (λ v. get_or xs v false)) c.deref.ensures.value (c.is_allowed.ensures.allowed c.if-is_allowed.true)
