use Rattle.schema_core.specs.Lookups.{attrs_of}
use Rattle.rule_parser.specs.RuleLines.{row_at}
use Rattle.rule_parser.specs.RuleFiles.{some_rows}
use Rattle.rule_parser.proofs.FewRows.{cfd_holds}
use Rattle.rule_parser.proofs.file.cfd_rows.Goals as goal

pub returns-clause-exact : goal.returns-clause-exact
returns-clause-exact c =
    cfd_holds (attrs_of c.args.book.now.schema c.args.cfd.now.table) c.new-tests.result.attrs.now c.args.cfd.now c.new-tests.result.cfd.now c.args.book.now.limits c.limits.result.now (some_rows row_at c.args.number c.args.members) c.some_rows.result
    (rw c.schema.ensures.schema at c.new-tests.ensures.attrs) c.new-tests.ensures.cfd c.limits.ensures.limits c.some_rows.ensures.exact
