use Rattle.std.proofs.Common.{get_or, arith}
use Rattle.std.proofs.lemmas.List.{get_or_default}
use Rattle.view_list.specs.Pieces.{further, value_text}
use Rattle.view_list.proofs.Pairs.{pairs_step, pairs_all}
use Rattle.view_list.proofs.values.push_further.Goals as goal

pub loop-i-preserved : goal.loop-i-preserved
loop-i-preserved c =
    let places = c.args.places.now in
    let attr = get_or places c.loop-i.i 0 in
    pairs_step (further (value_text c.args.attrs.now)) c.args.out.now.items c.loop-i.out.items _ places c.args.values.now c.loop-i.i attr c.index-values-i.result (omega (arith, c.min-i-end.ensures, c.loop-i-test.true)) (omega (arith, c.min-i-end.ensures, c.loop-i-test.true))
    (get_or_default places c.loop-i.i 0 attr (omega (arith, c.min-i-end.ensures, c.loop-i-test.true))) c.index-values-i.is c.loop-i.invariant c.in_ok-push_next.ensures

pub returns : goal.returns
returns c = pairs_all (further (value_text c.args.attrs.now)) c.args.out.now.items c.loop-i.out.items c.args.places.now c.args.values.now c.loop-i.i (omega (arith, c.min-i-end.ensures, c.loop-i-test.false)) c.loop-i.invariant
