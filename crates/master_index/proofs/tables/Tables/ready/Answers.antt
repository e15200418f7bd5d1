use Rattle.std.proofs.Common.{◌∙◌}
use Rattle.master_index.proofs.TableRows.{table_alike}
use Rattle.master_index.proofs.tables.Tables.ready.Goals as goal

pub returns-clause-rows : goal.returns-clause-rows
returns-clause-rows c = table_alike c.reach.new.self.stores.items c.args.table c.index_mut.result.now c.ready_row.new.store c.in_ok-reach.ensures.reached c.index_mut.ensures.value c.ready_row.ensures.rows ∙ c.reach.ensures.rows
