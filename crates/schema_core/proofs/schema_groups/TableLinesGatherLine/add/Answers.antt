use Rattle.std.proofs.Common.{sym, ◌∙◌}
use Rattle.schema_core.proofs.ReadSchemaLemmas.{unless-none, table-with_attr}
use Rattle.schema_core.proofs.schema_groups.TableLinesGatherLine.add.Goals as goal

pub returns-clause-fit : goal.returns-clause-fit
returns-clause-fit c =
    let far = c.args.self.now in
    let fine = sym (rw c.as_slice.ensures at c.in_ok-fault.ensures) ∙ unless-none c.in_ok-fault.fault c.args.line.number c.in_ok-unless.ensures in
    rw c.in_ok-push.ensures.ok (table-with_attr far.limits far.table c.in_ok-attr.attr c.requires.fit c.in_ok-attr.ensures.fit fine)
