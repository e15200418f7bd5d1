use Rattle.bench_index.proofs.ListsOnce.{list-joins, list-stays}
use Rattle.bench_index.proofs.masters.master_lists.Goals as goal
use Rattle.bench_index.proofs.masters.master_lists.Goals.{then-not-is_looked_up+in_ok-list_of+in_ok-push, else-not-is_looked_up}
use Rattle.std.proofs.Common.{ap, ◌∙◌}

pub loop-place-preserved : goal.loop-place-preserved
loop-place-preserved c =
    let edits = c.as_slice-edits.result.now in
    let place = c.loop-place.place in
    let rule = c.index-edits-place.result in
    elim c.if-not-is_looked_up.branch [
      | then-not-is_looked_up+in_ok-list_of+in_ok-push w ↦
          ap (λ v. v.items) w.lists-is
          ∙ list-joins edits place rule c.loop-place-test.true c.index-edits-place.is c.is_looked_up.result c.is_looked_up.ensures c.loop-place.lists.items c.loop-place.invariant w.in_ok-list_of.field-0 w.in_ok-list_of.ensures _ w.in_ok-push.ensures.items w.if-not-is_looked_up.true
      | else-not-is_looked_up w ↦
          ap (λ v. v.items) w.lists-is
          ∙ list-stays edits place rule c.loop-place-test.true c.index-edits-place.is c.is_looked_up.result c.is_looked_up.ensures c.loop-place.lists.items c.loop-place.invariant w.if-not-is_looked_up.false
    ]
