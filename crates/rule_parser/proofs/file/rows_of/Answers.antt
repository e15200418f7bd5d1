use Rattle.rule_parser.specs.RuleFiles.{rows_of}
use Rattle.rule_parser.proofs.RowLists.{one_more, fit_step}
use Rattle.rule_parser.proofs.file.rows_of.Goals as goal

pub loop-line-preserved : goal.loop-line-preserved
loop-line-preserved g c =
    let left = c.loop-line.invariant in
    let items = c.in-Some.ensures.steps.0 in
    let first = c.in_ok-read.field-0 in
    let added = c.in_ok-add.ensures in (
      one_more g.P.Phrase.reads (g.T.TestsRows.tests c.args.tests.now) c.args.most (rows_of g.P.Phrase.reads c.args.lines) c.in-Some.line c.loop-line.line-iterator.rest.items c.next.new.self.rest.items first c.loop-line.held c.add.new.self items c.in_ok-read.ensures.exact added.stand left.0,
      fit_step g.P.Phrase.is_fit c.loop-line.held.rows c.add.new.self.rows first added.held left.1 c.in_ok-read.ensures.fit,
    )
