use Rattle.std.proofs.Common.{◌≡◌, length, [], ◌∙◌}
use Rattle.std.proofs.lemmas.List.{get_or_read}
use Rattle.std.proofs.lemmas.Result.{err_from_is_err_and}
use Rattle.dep_search.specs.Found.{all_found, found_on, side_at}
use Rattle.dep_search.proofs.Counted.{too_many}
use Rattle.dep_search.proofs.finder.found_by_sides.Goals as goal

pub returns-in_err-push_side-clause-many : goal.returns-in_err-push_side-clause-many
unfolding all_found
returns-in_err-push_side-clause-many c =
    let table = c.args.table.now in
    let sides = c.args.sides.now in
    let p = err_from_is_err_and c.from_residual.result c.from_residual.ensures.1 in
    let side : c.as_slice.result.now ≡ side_at sides c.loop-number.number =
    c.as_slice.ensures
    ∙ get_or_read sides c.loop-number.number c.index-sides-number.result c.loop-number-test.true c.index-sides-number.is [] in
    rw (p.1, p.2) (λ e.
    too_many (λ side. found_on table.rows.now table.support (length table.columns.now) side (side_at sides side)) [] c.loop-number.found c.args.most c.loop-number.number
    (length sides) c.loop-number-test.true c.loop-number.invariant.found (rw side at (c.in_err-push_side.ensures.many e)))
