use Rattle.std.proofs.Common.{subst, ◌∙◌}
use Rattle.std.specs.Prelude.{OnOk}
use Rattle.row_store.specs.Tuple.{ids_behind, ids_if}
use Rattle.bench_index.specs.AllIndexes.{AllFollow}
use Rattle.bench_core.specs.Turns.{tuple_after, tuple_before}
use Rattle.bench_core.proofs.Behind.{behind-is}
use Rattle.bench_core.proofs.changes.follow_change.Goals as goal

pub returns-clause-followed : goal.returns-clause-followed
returns-clause-followed g c =
    let change = c.args.change.now in
    let direction = c.args.direction in
    let one = behind-is c.as_ref-before.result (tuple_before direction change) (c.as_ref-before.ensures.value ∙ c.tuple_before.ensures) in
    let other = behind-is c.as_ref-after.result (tuple_after direction change) (c.as_ref-after.ensures.value ∙ c.tuple_after.ensures) in
    subst (λ ids. OnOk c.follow.result (AllFollow c.args.rules.now change.table change.row ids (ids_if (tuple_after direction change)) c.args.index.now c.follow.new.self)) one
    (subst (λ ids. OnOk c.follow.result (AllFollow c.args.rules.now change.table change.row (ids_behind c.as_ref-before.result) ids c.args.index.now c.follow.new.self)) other c.follow.ensures.ok)
