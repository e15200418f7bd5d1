use Rattle.std.proofs.Common.{ap, ◌∙◌}
use Rattle.master_index.specs.Tables.{rows_of_tables}
use Rattle.master_index.proofs.TableRows.{table_pushed}
use Rattle.master_index.proofs.tables.Tables.reach.Goals as goal

pub loop-alloc-preserved : goal.loop-alloc-preserved
loop-alloc-preserved c = ap rows_of_tables c.in_ok-push.ensures.items ∙ table_pushed c.loop-alloc.self.stores.items c.new.result c.new.ensures.empty ∙ c.loop-alloc.invariant
