use Rattle.std.proofs.Common.{arith, eqb}
use Rattle.std.specs.Prelude.{slice_index}
use Rattle.std.proofs.lemmas.List.{get_or_read}
use Rattle.dep_search.proofs.Counted.{tally_le}
use Rattle.dep_search.proofs.settled.sizes.Goals as goal

pub overflow_add-size : goal.overflow_add-size
overflow_add-size c =
    let leaders = c.args.leaders.now in
    let r = c.loop-r.r in
    let first = slice_index leaders r in
    let inside = c.requires r c.loop-r-test.true in
    let size = get_or_read c.loop-r.sizes.items first c.index-size.result.now (omega (arith, inside, c.loop-r.invariant.long)) c.index-size.ensures 0 in
    let counted = c.loop-r.invariant.each first inside in
    omega (arith, size, counted, tally_le (λ s. eqb first (slice_index leaders s)) r, c.loop-r-test.true)
