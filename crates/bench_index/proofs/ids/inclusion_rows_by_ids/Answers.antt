use Rattle.std.proofs.Common.{ℕ, ◌+◌, take, sym, subst}
use Rattle.std.specs.List.{AllZip}
use Rattle.cfd_semantics.specs.declared.inclusion.InclusionRow.{InclusionRow}
use Rattle.bench_index.specs.ByIds.{HaveIds, IsInclusionRowByIds}
use Rattle.bench_index.proofs.Zips.{zip_more}
use Rattle.bench_index.proofs.Kept.{kept_after, ids-kept, inclusion_row-kept}
use Rattle.bench_index.proofs.ids.inclusion_rows_by_ids.Goals as goal

pub loop-row-preserved : goal.loop-row-preserved
loop-row-preserved c =
    let mid = c.ids_of_texts.new.pool in
    let last = c.ids_of_texts-in-loop-row.new.pool in
    let kept = kept_after c.loop-row.pool mid last c.in_ok-xp.ensures.kept c.in_ok-yp.ensures.kept in
    let by_ids : InclusionRow ℕ = record { xp = c.in_ok-xp.xp; yp = c.in_ok-yp.yp } in
    let one : IsInclusionRowByIds last c.row-item.result by_ids = record { xp = ids-kept mid last c.in_ok-yp.ensures.kept c.row-item.result.xp c.in_ok-xp.xp (subst (λ values. HaveIds mid values c.in_ok-xp.xp) c.as_slice.ensures c.in_ok-xp.ensures.ids); yp = subst (λ values. HaveIds last values c.in_ok-yp.yp) c.as_slice-in-loop-row.ensures c.in_ok-yp.ensures.ids } in (
      subst (λ out. AllZip (IsInclusionRowByIds last) (take (c.loop-row.row-index + 1) c.args.rows.now) out) (sym c.in_ok-push.ensures.ok)
          (zip_more (IsInclusionRowByIds c.loop-row.pool) (IsInclusionRowByIds last) (inclusion_row-kept c.loop-row.pool last kept) c.args.rows.now c.loop-row.all c.loop-row.row-index c.row-item.result by_ids c.loop-row-test.true c.row-item.is
          c.loop-row.invariant.0 one),
      kept_after c.args.pool.now c.loop-row.pool last c.loop-row.invariant.1 kept,
    )
