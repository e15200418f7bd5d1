use Rattle.std.proofs.Common.{arith}
use Rattle.view_list.specs.Rows.{cell_line}
use Rattle.view_list.proofs.Pairs.{pairs_step, pairs_all}
use Rattle.view_list.proofs.rows.push_row_values.Goals as goal

pub loop-i-preserved : goal.loop-i-preserved
loop-i-preserved c =
    pairs_step cell_line c.args.out.now.items c.loop-i.out.items _ c.args.attrs.now c.args.texts.now c.loop-i.i c.index-attrs-i.result c.index-texts-i.result (omega (arith, c.min-i-end.ensures, c.loop-i-test.true)) (omega (arith, c.min-i-end.ensures, c.loop-i-test.true))
    c.index-attrs-i.is c.index-texts-i.is c.loop-i.invariant c.in_ok-push_cell.ensures

pub returns : goal.returns
returns c = pairs_all cell_line c.args.out.now.items c.loop-i.out.items c.args.attrs.now c.args.texts.now c.loop-i.i (omega (arith, c.min-i-end.ensures, c.loop-i-test.false)) c.loop-i.invariant
