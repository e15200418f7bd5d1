use Rattle.rule_parser.specs.RuleLines.{row_at}
use Rattle.rule_parser.specs.RuleFiles.{some_rows}
use Rattle.rule_parser.proofs.FewRows.{cfd_given}
use Rattle.rule_parser.proofs.file.RuleGroups.join_cfd.Goals as goal

pub returns : goal.returns
returns c = cfd_given c.args.number c.args.self.now.book _ c.args.cfd (some_rows row_at c.args.number c.args.members) c.in_ok-held.held c.join.result c.in_ok-held.ensures.exact c.join.ensures
