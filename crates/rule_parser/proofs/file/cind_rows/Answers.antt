use Rattle.schema_core.specs.Lookups.{attrs_of}
use Rattle.rule_parser.specs.RuleLines.{inclusion_row_at}
use Rattle.rule_parser.specs.RuleFiles.{some_rows}
use Rattle.rule_parser.proofs.FewRows.{cind_holds}
use Rattle.rule_parser.proofs.file.cind_rows.Goals as goal

pub returns-clause-exact : goal.returns-clause-exact
returns-clause-exact c =
    let schema = c.args.book.now.schema in
    let cind = c.args.cind.now in
    let tests = c.new-tests.result in
    cind_holds (attrs_of schema cind.left) tests.lefts.now (attrs_of schema cind.right) tests.rights.now cind tests.cind.now c.args.book.now.limits c.limits.result.now (some_rows inclusion_row_at c.args.number c.args.members) c.some_rows.result
    (rw c.schema.ensures.schema at c.new-tests.ensures.lefts) (rw c.schema.ensures.schema at c.new-tests.ensures.rights) c.new-tests.ensures.cind c.limits.ensures.limits c.some_rows.ensures.exact
