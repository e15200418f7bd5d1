use Rattle.std.proofs.Common.{subst}
use Rattle.std.specs.List.{AllZip}
use Rattle.bench_index.specs.ByIds.{IsCellByIds}
use Rattle.bench_index.proofs.Kept.{cells-kept}
use Rattle.bench_index.proofs.ids.row_by_ids.Goals as goal

pub returns-clause-row : goal.returns-clause-row
returns-clause-row c = record {
  x = cells-kept c.cells_by_ids.new.pool c.cell_by_ids.new.pool c.in_ok-a.ensures.kept c.args.row.now.x c.in_ok-x.x
      (subst (λ cells. AllZip (IsCellByIds c.cells_by_ids.new.pool) cells c.in_ok-x.x) c.as_slice.ensures c.in_ok-x.ensures.cells);
  a = c.in_ok-a.ensures.cell;
}
