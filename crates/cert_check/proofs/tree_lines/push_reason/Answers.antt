use Rattle.cert_check.proofs.NodeTexts.{clause_fit}
use Rattle.cert_check.proofs.tree_lines.push_reason.Goals as goal

pub returns-in-Clause-clause-fit : goal.returns-in-Clause-clause-fit
returns-in-Clause-clause-fit c = clause_fit c.push_clause.result c.args.names.now c.args.reason c.in-Clause.at c.in-Clause.is c.push_clause.ensures.few
