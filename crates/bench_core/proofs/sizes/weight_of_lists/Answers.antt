use Rattle.std.proofs.Common.{◌≡◌, ◌-◌, ◌^◌, min, cond, take}
use Rattle.std.specs.List.{list_any}
use Rattle.rule_model.specs.declared.edit_rule.EditRule.{EditRule}
use Rattle.bench_core.specs.Sizes.{columns_of, columns_weight, same_columns}
use Rattle.bench_core.proofs.Distinct.{weight-more, stopped-more}
use Rattle.bench_core.proofs.sizes.weight_of_lists.Goals as goal

pub loop-place-preserved : goal.loop-place-preserved
loop-place-preserved c =
    let rule = c.index-edits-place.result in
    let more = weight-more c.args.edits.now c.args.table c.loop-place.place rule c.loop-place-test.true c.index-edits-place.is in
    let own : c.weight_of_list.result ≡ min (cond (list_any (λ (other : EditRule). same_columns (columns_of other) (columns_of rule)) (take c.loop-place.place c.args.edits.now)) 0 (columns_weight c.args.table (columns_of rule))) (2 ^ 64 - 1) = c.weight_of_list.ensures in
    rw more (stopped-more _ _ _ _ _ _ c.loop-place.invariant own c.saturating_add-sum.ensures)
