use Rattle.std.specs.List.{flat_map, range_with_len}
use Rattle.std.proofs.Common.{◌+◌}
use Rattle.cfd_implication.specs.Question.{constant_clauses}
use Rattle.cell_values.proofs.Loops.{appended, flat_range}
use Rattle.cfd_implication.proofs.rows.push_agreeing.Goals as goal

pub loop-place-preserved : goal.loop-place-preserved
loop-place-preserved c =
    let f = constant_clauses c.args.cells.now c.args.cell.now.attr in
    let place = c.loop-place.place in
    appended c.push_constant.new.out c.loop-place.out c.args.out.now (flat_map f (range_with_len 0 place)) (f place) (flat_map f (range_with_len 0 (place + 1))) c.in_ok-push_constant.ensures c.loop-place.invariant (flat_range f place)
