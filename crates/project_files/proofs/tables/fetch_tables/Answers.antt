use Rattle.std.proofs.Common.{◌≡◌, ◌+◌, Err, refl, sym, subst}
use Rattle.std.specs.List.{AllZip}
use Rattle.std.proofs.lemmas.List.{take_all}
use Rattle.std.proofs.lemmas.Result.{err_from_is_err_and}
use Rattle.cli_output.specs.TableFiles.{fetch_table}
use Rattle.cli_output.proofs.EachLoop.{under_way-all, under_way-next, under_way-none, under_way-stopped}
use Rattle.project_files.proofs.TableLoop.{AreRowsOf, IsUnderWay, AllZip-take_more}
use Rattle.project_files.proofs.tables.fetch_tables.Goals as goal

pub loop-table-init : goal.loop-table-init
loop-table-init g c =
    let shelf = g.S.Shelf.told c.args.shelf.now in
    subst (λ all. IsUnderWay c.args.limits.now c.args.tables.now 0 all shelf shelf c.args.left.now c.args.left.now) (sym c.new-all.ensures)
    (record { fetched = under_way-none (fetch_table c.args.limits.now) c.args.tables.now shelf c.args.left.now; valid = tt })

pub loop-table-preserved : goal.loop-table-preserved
loop-table-preserved g c =
    let limits = c.args.limits.now in
    let tables = c.args.tables.now in
    let place = c.loop-table.table-index in
    let table = c.table-item.result in
    let rows = c.in_ok-rows.rows in
    let before = g.S.Shelf.told c.args.shelf.now in
    let after = g.S.Shelf.told c.fetch_table.new.shelf in
    let so_far = c.loop-table.invariant in
    subst (λ all. IsUnderWay limits tables (place + 1) all before after c.args.left.now c.fetch_table.new.left) (sym c.in_ok-push.ensures.ok)
    (record {
      fetched = under_way-next (fetch_table limits) tables place c.loop-table.all before _ after c.args.left.now _ _ table rows c.loop-table-test.true c.table-item.is so_far.fetched c.in_ok-rows.ensures.table;
      valid = AllZip-take_more (AreRowsOf limits) tables _ place table rows c.loop-table-test.true c.table-item.is so_far.valid c.in_ok-rows.ensures.valid;
    })

pub returns-in_err-rows-clause-tables : goal.returns-in_err-rows-clause-tables
returns-in_err-rows-clause-tables g c =
    let p = err_from_is_err_and c.from_residual.result c.from_residual.ensures.1 in
    let same : c.from_residual.result ≡ Err c.in_err-rows.field-0.0 = rw (p.1, p.2) refl in
    under_way-stopped (fetch_table c.args.limits.now) c.args.tables.now c.loop-table.table-index c.loop-table.all _ _ _ _ _ _ c.table-item.result c.in_err-rows.field-0.0 c.from_residual.result c.loop-table-test.true c.table-item.is same c.loop-table.invariant.fetched
    c.in_err-rows.ensures.table

pub returns-clause-tables : goal.returns-clause-tables
returns-clause-tables g c = under_way-all (fetch_table c.args.limits.now) c.args.tables.now c.loop-table.table-index c.loop-table.all _ _ _ _ c.loop-table-test.false c.loop-table.auto.table-index-end c.loop-table.invariant.fetched

pub returns-clause-valid : goal.returns-clause-valid
returns-clause-valid g c =
    subst (λ tables. AllZip (AreRowsOf c.args.limits.now) tables c.loop-table.all) (take_all c.loop-table.table-index c.args.tables.now c.loop-table-test.false) c.loop-table.invariant.valid
