use Rattle.std.proofs.Common.{arith}
use Rattle.view_list.specs.Listed.{cind_part}
use Rattle.view_list.proofs.Pairs.{pairs_step, pairs_all}
use Rattle.view_list.proofs.listed.push_cinds.Goals as goal

pub loop-i-preserved : goal.loop-i-preserved
loop-i-preserved c =
    pairs_step (cind_part c.args.options.now c.args.schema.now c.args.counts.now) c.args.out.now.items c.loop-i.out.items _ c.args.cinds.now c.args.found.now c.loop-i.i c.index-cinds-i.result c.index-found-i.result (omega (arith, c.min-i-end.ensures, c.loop-i-test.true)) (omega (arith, c.min-i-end.ensures, c.loop-i-test.true))
    c.index-cinds-i.is c.index-found-i.is c.loop-i.invariant c.in_ok-push_cind_part.ensures

pub returns : goal.returns
returns c = pairs_all (cind_part c.args.options.now c.args.schema.now c.args.counts.now) c.args.out.now.items c.loop-i.out.items c.args.cinds.now c.args.found.now c.loop-i.i (omega (arith, c.min-i-end.ensures, c.loop-i-test.false)) c.loop-i.invariant
