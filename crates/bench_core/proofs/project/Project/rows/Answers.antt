use Rattle.std.proofs.Common.{map, ap, sym, ◌∙◌}
use Rattle.std.proofs.lemmas.Iterator.Consumers.{YieldsList-from_first, YieldsList-turn, YieldsList-end}
use Rattle.std.specs.FinMap.{entries}
use Rattle.row_store.specs.Rows.{row_seen, rows_left}
use Rattle.bench_core.specs.Stored.{Stored, stored, row_of, table_state, RowsHaveTexts}
use Rattle.bench_core.specs.Bench.{tables_of, present_of}
use Rattle.bench_core.proofs.Holding.{stored-at, state-there, all-there}
use Rattle.bench_core.proofs.Filled.{row-named, rows_at-is}
use Rattle.bench_core.proofs.project.Project.rows.Goals as goal

pub texts_of-requires : goal.texts_of-requires
texts_of-requires c =
    let at = stored-at c.args.self.now.stores.items c.args.table c.index.result.now c.requires.table c.index.ensures in
    let all = YieldsList-from_first row_seen rows_left (entries c.index.result.now.rows) (ap rows_left c.into_iter-id-iterator.ensures.into_iter_gives ∙ c.rows-id-items.ensures) in
    let have = all-there (λ (table : Stored). RowsHaveTexts c.args.self.now.pool table.rows) (tables_of c.args.self.now) c.args.table (stored c.index.result.now) c.requires.held.named at in
    let turn = YieldsList-turn all c.loop-id.yielded _ c.loop-id.yielded_by _ c.next.new.self (c.in-Some.id, c.in-Some.tuple) c.in-Some.is c.next.ensures.steps in
    row-named c.args.self.now.pool (entries c.index.result.now.rows) _ (row_seen (c.in-Some.id, c.in-Some.tuple)) have turn.0 turn.1

pub returns : goal.returns
returns c =
    let at = stored-at c.args.self.now.stores.items c.args.table c.index.result.now c.requires.table c.index.ensures in
    let all = YieldsList-from_first row_seen rows_left (entries c.index.result.now.rows) (ap rows_left c.into_iter-id-iterator.ensures.into_iter_gives ∙ c.rows-id-items.ensures) in
    let whole = YieldsList-end all c.loop-id.yielded _ c.loop-id.yielded_by _ c.next.new.self c.in-None.is c.next.ensures.steps in
    c.loop-id.invariant
    ∙ ap (map (row_of c.args.self.now.pool)) whole.0
    ∙ sym (rows_at-is (present_of c.args.self.now) c.args.table (table_state c.args.self.now.pool (stored c.index.result.now)) (state-there c.args.self.now.pool c.args.table (tables_of c.args.self.now) (stored c.index.result.now) at))
