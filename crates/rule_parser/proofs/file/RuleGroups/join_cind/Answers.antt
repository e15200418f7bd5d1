use Rattle.rule_parser.specs.RuleLines.{inclusion_row_at}
use Rattle.rule_parser.specs.RuleFiles.{some_rows}
use Rattle.rule_parser.proofs.FewRows.{cind_given}
use Rattle.rule_parser.proofs.file.RuleGroups.join_cind.Goals as goal

pub returns : goal.returns
returns c = cind_given c.args.number c.args.self.now.book _ c.args.cind (some_rows inclusion_row_at c.args.number c.args.members) c.in_ok-held.held c.join.result c.in_ok-held.ensures.exact c.join.ensures
