use Rattle.std.proofs.Common.{sym, ◌∙◌}
use Rattle.schema_core.proofs.ReadSchemaLemmas.{unless-none, schema-with_table}
use Rattle.schema_core.proofs.schema_groups.SchemaGroups.add_table.Goals as goal

pub returns-clause-fit : goal.returns-clause-fit
returns-clause-fit c =
    let far = c.args.self.now in
    let fine = sym (rw (c.as_slice.ensures, c.as_str.ensures.bytes, c.as_slice-2.ensures) at c.table_fault-fault.ensures) ∙ unless-none c.table_fault-fault.result c.args.number c.in_ok-unless.ensures in
    rw c.in_ok-push.ensures.ok
    (schema-with_table far.limits far.limits far.schema c.args.table c.in_ok-whole.whole c.args.members c.requires.fit fine c.in_ok-whole.ensures.exact c.in_ok-whole.ensures.fit)
