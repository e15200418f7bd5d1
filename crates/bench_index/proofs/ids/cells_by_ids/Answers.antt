use Rattle.std.proofs.Common.{◌+◌, take, sym, subst}
use Rattle.std.specs.List.{AllZip}
use Rattle.bench_index.specs.ByIds.{IsCellByIds}
use Rattle.bench_index.proofs.Zips.{zip_more}
use Rattle.bench_index.proofs.Kept.{kept_after, cell-kept}
use Rattle.bench_index.proofs.ids.cells_by_ids.Goals as goal

pub loop-cell-preserved : goal.loop-cell-preserved
loop-cell-preserved c =
    let kept = c.in_ok-cell_by_ids.ensures.kept in (
      subst (λ out. AllZip (IsCellByIds c.cell_by_ids.new.pool) (take (c.loop-cell.cell-index + 1) c.args.cells.now) out) (sym c.in_ok-push.ensures.ok)
          (zip_more (IsCellByIds c.loop-cell.pool) (IsCellByIds c.cell_by_ids.new.pool) (cell-kept c.loop-cell.pool c.cell_by_ids.new.pool kept) c.args.cells.now c.loop-cell.all c.loop-cell.cell-index c.cell-item.result c.in_ok-cell_by_ids.field-0 c.loop-cell-test.true c.cell-item.is
          c.loop-cell.invariant.0 c.in_ok-cell_by_ids.ensures.cell),
      kept_after c.args.pool.now c.loop-cell.pool c.cell_by_ids.new.pool c.loop-cell.invariant.1 kept,
    )
