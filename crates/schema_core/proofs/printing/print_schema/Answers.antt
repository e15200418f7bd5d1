use Rattle.std.proofs.Common.{ap, ◌∙◌}
use Rattle.text_lists.specs.Limits.{standard}
use Rattle.schema_core.specs.SchemaFiles.{reads}
use Rattle.schema_core.proofs.PrintLemmas.{canonical-written}
use Rattle.schema_core.proofs.RoundTrip.{reads-canonical}
use Rattle.schema_core.proofs.printing.print_schema.Goals as goal

pub returns-clause-text : goal.returns-clause-text
returns-clause-text c =
    canonical-written c.args.schema.now c.loop-table.out.items c.push_file.new.out.items c.push_file-2.new.out.items _ c.loop-table.table-index c.loop-table-test.false c.as_slice-table-items.ensures c.loop-table.invariant c.in_ok-push_file.ensures c.in_ok-push_file-2.ensures

pub returns-clause-read_again : goal.returns-clause-read_again
returns-clause-read_again c =
    ap (reads standard) (canonical-written c.args.schema.now c.loop-table.out.items c.push_file.new.out.items c.push_file-2.new.out.items _ c.loop-table.table-index c.loop-table-test.false c.as_slice-table-items.ensures c.loop-table.invariant c.in_ok-push_file.ensures c.in_ok-push_file-2.ensures)
    ∙ reads-canonical c.args.schema.now c.requires
