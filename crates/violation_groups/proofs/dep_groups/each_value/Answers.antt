use Rattle.std.proofs.Common.{ℕ, List, length, arith}
use Rattle.std.proofs.lemmas.Iterator.Adapters.{YieldsList-from_vec}
use Rattle.std.proofs.lemmas.Iterator.Consumers.{YieldsList-turn}
use Rattle.violation_groups.specs.ByIds.{HasText, value_rows_named}
use Rattle.violation_groups.proofs.Steps.{item-holds, map-more}
use Rattle.violation_groups.proofs.dep_groups.each_value.Goals as goal

pub value_of-requires : goal.value_of-requires
value_of-requires c =
    let all = YieldsList-from_vec c.args.found.items c.into_iter-id-iterator.ensures.into_iter_gives.0 (omega (arith, c.into_iter-id-iterator.ensures.into_iter_gives.1, c.args.found.ok.0)) in
    let turn = YieldsList-turn all c.loop-id.yielded _ c.loop-id.yielded_by _ c.next.new.self (c.in-Some.id, c.in-Some.rows) c.in-Some.is c.next.ensures.steps in
    item-holds (λ (value : ℕ × List ℕ). HasText c.args.pool.now value.0) c.args.found.items (length c.loop-id.yielded) (c.in-Some.id, c.in-Some.rows) c.requires turn.0 turn.1

pub loop-id-preserved : goal.loop-id-preserved
loop-id-preserved c =
    map-more (value_rows_named c.args.pool.now) c.loop-id.yielded (c.in-Some.id, c.in-Some.rows) c.loop-id.values c.push.new.self c.in_ok-value.value c.loop-id.invariant c.in_ok-value.ensures c.in_ok-push.ensures.ok
