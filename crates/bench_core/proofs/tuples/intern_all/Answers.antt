use Rattle.value_pool.specs.Pool.{HasId}
use Rattle.row_takers.proofs.Kept.{kept-twice}
use Rattle.bench_core.proofs.Named.{ids-more}
use Rattle.bench_core.proofs.tuples.intern_all.Goals as goal

pub loop-text-preserved : goal.loop-text-preserved
loop-text-preserved c =
    let has : HasId c.intern.new.self c.text-item.result c.in_ok-id.id = rw c.as_str.ensures.bytes at c.in_ok-id.ensures.id in
    let more = ids-more c.loop-text.pool c.intern.new.self c.loop-text.ids.items c.args.texts.now c.loop-text.text-index c.in_ok-id.id c.text-item.result c.loop-text.invariant.0 c.intern.ensures.kept has c.loop-text-test.true c.text-item.is in
    (rw c.in_ok-push.ensures.items more, kept-twice c.args.pool.now c.loop-text.pool c.intern.new.self c.loop-text.invariant.1 c.intern.ensures.kept)
