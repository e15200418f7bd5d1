use Rattle.std.proofs.Common.{◌≡◌, ◌+◌, Err, refl, sym, subst}
use Rattle.std.proofs.lemmas.Result.{err_from_is_err_and}
use Rattle.view_schema.specs.SchemaForm.{fetch_sheet}
use Rattle.cli_output.proofs.EachLoop.{IsUnderWay, under_way-all, under_way-next, under_way-none, under_way-stopped}
use Rattle.view_schema.proofs.fetch_sheets.Goals as goal

pub loop-table-init : goal.loop-table-init
loop-table-init g c =
    let shelf = g.S.Shelf.told c.args.shelf.now in
    subst (λ sheets. IsUnderWay (fetch_sheet c.args.limits.now) c.args.tables.now 0 sheets shelf shelf c.args.left.now c.args.left.now) (sym c.new-sheets.ensures) (under_way-none (fetch_sheet c.args.limits.now) c.args.tables.now shelf c.args.left.now)

pub loop-table-preserved : goal.loop-table-preserved
loop-table-preserved g c =
    let limits = c.args.limits.now in
    let before = g.S.Shelf.told c.args.shelf.now in
    let after = g.S.Shelf.told c.fetch_sheet.new.shelf in
    subst (λ sheets. IsUnderWay (fetch_sheet limits) c.args.tables.now (c.loop-table.table-index + 1) sheets before after c.args.left.now c.fetch_sheet.new.left) (sym c.in_ok-push.ensures.ok)
    (under_way-next (fetch_sheet limits) c.args.tables.now c.loop-table.table-index c.loop-table.sheets before _ after c.args.left.now _ _ c.table-item.result c.in_ok-sheet.sheet c.loop-table-test.true c.table-item.is c.loop-table.invariant c.in_ok-sheet.ensures)

pub returns-in_err-sheet : goal.returns-in_err-sheet
returns-in_err-sheet g c =
    let p = err_from_is_err_and c.from_residual.result c.from_residual.ensures.1 in
    let same : c.from_residual.result ≡ Err c.in_err-sheet.field-0.0 = rw (p.1, p.2) refl in
    under_way-stopped (fetch_sheet c.args.limits.now) c.args.tables.now c.loop-table.table-index c.loop-table.sheets _ _ _ _ _ _ c.table-item.result c.in_err-sheet.field-0.0 c.from_residual.result c.loop-table-test.true c.table-item.is same c.loop-table.invariant c.in_err-sheet.ensures

pub returns : goal.returns
returns g c = under_way-all (fetch_sheet c.args.limits.now) c.args.tables.now c.loop-table.table-index c.loop-table.sheets _ _ _ _ c.loop-table-test.false c.loop-table.auto.table-index-end c.loop-table.invariant
