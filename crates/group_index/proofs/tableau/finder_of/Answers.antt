use Rattle.std.proofs.Common.{arith, refl}
use Rattle.std.proofs.lemmas.Option.{slice_get_read, slice_get_within}
use Rattle.group_index.proofs.TableauFacts.{one_more_row}
use Rattle.group_index.proofs.tableau.finder_of.Goals as goal

pub loop-k-preserved : goal.loop-k-preserved
loop-k-preserved c =
    one_more_row c.loop-k.finder c.put.new.self c.args.rows.now c.loop-k.k c.index-rows-k.result (slice_get_read c.args.rows.now _ c.loop-k.k c.index-rows-k.result refl (omega arith) c.index-rows-k.is) c.loop-k.invariant c.in_ok-put.ensures.row c.in_ok-put.ensures.kept

pub returns : goal.returns
returns c k t stands =
    let within = slice_get_within c.args.rows.now k t stands in
    c.loop-k.invariant k t (omega (arith, within)) stands
