use Rattle.std.proofs.Common.{◌≤◌, map, Some, ap, subst, sym, ◌∙◌}
use Rattle.row_store.specs.Tuple.{ids_of}
use Rattle.bench_core.specs.Stored.{HaveTexts, stored, table_state, text_of}
use Rattle.bench_core.proofs.Planned.{have-texts, texts-absent, texts-there}
use Rattle.bench_core.proofs.RowsAt.{none-beyond, texts-at}
use Rattle.bench_core.proofs.bench.Bench.row_texts.Goals as goal

pub returns-then-table-table_count : goal.returns-then-table-table_count
returns-then-table-table_count c = none-beyond c.args.self.now.history.present c.args.table c.args.row (subst (λ n. n ≤ c.args.table) c.table_count.ensures c.if-table-table_count.true)

pub texts_of-requires : goal.texts_of-requires
texts_of-requires c =
    let bench = c.args.self.now in
    let ids = ids_of c.in-Some.tuple.now in
    subst (λ texts. HaveTexts texts ids) (sym c.pool.ensures) (have-texts bench.texts (stored c.store.result.now) c.args.row ids c.store.ensures.texts (sym c.in-Some.ensures))

pub returns-in_ok-texts_of-in-Some : goal.returns-in_ok-texts_of-in-Some
returns-in_ok-texts_of-in-Some c =
    let bench = c.args.self.now in
    let store = stored c.store.result.now in
    let ids = ids_of c.in-Some.tuple.now in
    ap Some (c.in_ok-texts_of-in-Some.ensures ∙ ap (λ texts. map (text_of texts) ids) c.pool.ensures)
    ∙ sym (texts-at bench.history.present c.args.table c.args.row (table_state bench.texts store) c.store.ensures.state ∙ texts-there bench.texts store c.args.row ids (sym c.in-Some.ensures))

pub returns-in-None : goal.returns-in-None
returns-in-None c =
    let bench = c.args.self.now in
    let store = stored c.store.result.now in
    sym (texts-at bench.history.present c.args.table c.args.row (table_state bench.texts store) c.store.ensures.state ∙ texts-absent bench.texts store c.args.row (sym c.in-None.ensures))
