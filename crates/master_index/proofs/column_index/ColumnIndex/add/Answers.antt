use Rattle.std.proofs.Common.{◌≡◌, sym, ap, subst, ◌∙◌, OnOk, arith}
use Rattle.std.proofs.lemmas.Bool.Decides.{nat_tests}
use Rattle.row_store.specs.Tuple.{ids_at, ids_of}
use Rattle.master_index.specs.ColumnRows.{IsComparedIn, IsPutUnder}
use Rattle.master_index.specs.Between.{IsOver, in_rows, with_one}
use Rattle.master_index.specs.Tables.{rows_of_tables}
use Rattle.master_index.proofs.BetweenFacts.{both_ok, on_err, after_put, after_refusal}
use Rattle.master_index.proofs.column_index.ColumnIndex.add.Goals as goal

pub returns-clause-ok : goal.returns-clause-ok
returns-clause-ok g c =
    let list = c.args.self.now.list in
    let old = c.args.self.now.rows.entries in
    let new = c.put_row.new.map.entries in
    let row = c.args.row in
    let rows = rows_of_tables c.args.tables.now.stores.items in
    let tuple = ids_of c.args.tuple.now in
    let here : list.master ≡ c.args.master = grind (arith, nat_tests, c.if-master-self.false) in
    let key : c.write_key.new.key.items ≡ ids_at tuple list.columns = c.write_key.ensures.ids ∙ ap (ids_at tuple) c.as_slice-columns.ensures in
    let compared = subst (λ n. OnOk c.put_row.result (IsComparedIn rows n old new c.write_key.new.key.items row tuple)) (sym here) c.put_row.ensures.compared in
    subst (λ n. OnOk c.put_row.result (IsOver (with_one (in_rows rows) n row tuple) list new)) here
    (both_ok c.put_row.result (λ put alike. after_put rows list old new row tuple c.requires.in_step (subst (λ ids. IsPutUnder old new ids row) key put) c.put_row.ensures.noted
    (subst (λ ids. IsComparedIn rows list.master old new ids row tuple) key alike)) c.put_row.ensures.ok compared)

pub returns-clause-err : goal.returns-clause-err
returns-clause-err g c =
    let self = c.args.self.now in
    on_err c.put_row.result (λ alike. after_refusal (rows_of_tables c.args.tables.now.stores.items) self.list self.rows.entries c.put_row.new.map.entries c.requires.in_step alike c.put_row.ensures.noted) c.put_row.ensures.err
