use Rattle.std.proofs.Common.{List, subst}
use Rattle.case_tree.specs.declared.clauses.Literal.{Literal}
use Rattle.case_tree.specs.CaseTree.{Holds}
use Rattle.case_search.proofs.step.is_right.Goals as goal

pub returns-clause-forced : goal.returns-clause-forced
returns-clause-forced c held = (
  c.args.hint.literal.positive,
  c.args.hint.reason,
  subst (λ (path : List Literal). Holds c.args.clauses.now path c.args.hint.reason) c.push.ensures.path (c.holds-holds_then.ensures.0 held),
)
