use Rattle.std.proofs.Common.{◌+◌, take, sym, subst}
use Rattle.std.specs.List.{AllZip}
use Rattle.bench_index.specs.ByIds.{IsRowByIds}
use Rattle.bench_index.proofs.Zips.{zip_more}
use Rattle.bench_index.proofs.Kept.{kept_after, row-kept}
use Rattle.bench_index.proofs.ids.rows_by_ids.Goals as goal

pub loop-row-preserved : goal.loop-row-preserved
loop-row-preserved c =
    let kept = c.in_ok-row_by_ids.ensures.kept in (
      subst (λ out. AllZip (IsRowByIds c.row_by_ids.new.pool) (take (c.loop-row.row-index + 1) c.args.rows.now) out) (sym c.in_ok-push.ensures.ok)
          (zip_more (IsRowByIds c.loop-row.pool) (IsRowByIds c.row_by_ids.new.pool) (row-kept c.loop-row.pool c.row_by_ids.new.pool kept) c.args.rows.now c.loop-row.all c.loop-row.row-index c.row-item.result c.in_ok-row_by_ids.field-0 c.loop-row-test.true c.row-item.is
          c.loop-row.invariant.0 c.in_ok-row_by_ids.ensures.row),
      kept_after c.args.pool.now c.loop-row.pool c.row_by_ids.new.pool c.loop-row.invariant.1 kept,
    )
