use Rattle.std.proofs.Common.{arith}
use Rattle.rule_parser.proofs.Pairs.{pairs_step, pairs_all}
use Rattle.rule_parser.proofs.print.push_further_pairs.Goals as goal

pub loop-i-preserved : goal.loop-i-preserved
loop-i-preserved c =
    pairs_step c.args.out.now.items c.loop-i.out.items _ _ c.args.left.now c.args.right.now c.loop-i.i c.index-left-i.result c.index-right-i.result (omega (arith, c.min-i-end.ensures, c.loop-i-test.true)) (omega (arith, c.min-i-end.ensures, c.loop-i-test.true))
    c.index-left-i.is c.index-right-i.is c.loop-i.invariant c.in_ok-extend_from_slice.ensures.items c.in_ok-push_pair.ensures

pub returns : goal.returns
returns c = pairs_all c.args.out.now.items c.loop-i.out.items c.args.left.now c.args.right.now c.loop-i.i (omega (arith, c.min-i-end.ensures, c.loop-i-test.false)) c.loop-i.invariant
