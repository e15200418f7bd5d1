use Rattle.std.proofs.Common.{length, arith}
use Rattle.std.proofs.lemmas.Iterator.Adapters.{YieldsList-from_vec}
use Rattle.std.proofs.lemmas.Iterator.Consumers.{YieldsList-turn}
use Rattle.violation_groups.specs.ByIds.{HasKnownKey, missing_named}
use Rattle.violation_groups.proofs.Steps.{item-holds, map-more}
use Rattle.violation_groups.proofs.missing_keys.each_missing.Goals as goal

pub missing_key-requires : goal.missing_key-requires
missing_key-requires c =
    let all = YieldsList-from_vec c.args.found.items c.into_iter-key-iterator.ensures.into_iter_gives.0 (omega (arith, c.into_iter-key-iterator.ensures.into_iter_gives.1, c.args.found.ok.0)) in
    let turn = YieldsList-turn all c.loop-key.yielded _ c.loop-key.yielded_by _ c.next.new.self (c.in-Some.key, c.in-Some.rows) c.in-Some.is c.next.ensures.steps in
    item-holds (HasKnownKey c.args.pool.now) c.args.found.items (length c.loop-key.yielded) (c.in-Some.key, c.in-Some.rows) c.requires turn.0 turn.1

pub loop-key-preserved : goal.loop-key-preserved
loop-key-preserved c =
    map-more (missing_named c.args.pool.now) c.loop-key.yielded (c.in-Some.key, c.in-Some.rows) c.loop-key.missing c.push.new.self c.in_ok-found.found c.loop-key.invariant c.in_ok-found.ensures c.in_ok-push.ensures.ok
