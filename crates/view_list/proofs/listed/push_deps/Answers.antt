use Rattle.std.proofs.Common.{arith}
use Rattle.view_list.specs.Listed.{dep_part}
use Rattle.view_list.proofs.Pairs.{pairs_step, pairs_all}
use Rattle.view_list.proofs.listed.push_deps.Goals as goal

pub loop-i-preserved : goal.loop-i-preserved
loop-i-preserved c =
    pairs_step (dep_part c.args.options.now c.args.schema.now c.args.counts.now) c.args.out.now.items c.loop-i.out.items _ c.args.deps.now c.args.found.now c.loop-i.i c.index-deps-i.result c.index-found-i.result (omega (arith, c.min-i-end.ensures, c.loop-i-test.true)) (omega (arith, c.min-i-end.ensures, c.loop-i-test.true))
    c.index-deps-i.is c.index-found-i.is c.loop-i.invariant c.in_ok-push_dep_part.ensures

pub returns : goal.returns
returns c = pairs_all (dep_part c.args.options.now c.args.schema.now c.args.counts.now) c.args.out.now.items c.loop-i.out.items c.args.deps.now c.args.found.now c.loop-i.i (omega (arith, c.min-i-end.ensures, c.loop-i-test.false)) c.loop-i.invariant
