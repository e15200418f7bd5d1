use Rattle.std.proofs.lemmas.List.{take_more}
use Rattle.group_index.proofs.group.head_among.Goals as goal

pub loop-pair-preserved : goal.loop-pair-preserved
loop-pair-preserved c = rw (take_more c.args.pairs.now c.loop-pair.pair-index (0, 0) c.loop-pair-test.true) (c.nearer-head.ensures _ c.loop-pair.invariant)
