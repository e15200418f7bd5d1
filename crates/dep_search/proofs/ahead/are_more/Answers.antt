use Rattle.std.proofs.Common.{◌≡◌, ℕ, ◌<◌, [], length, ◌∙◌}
use Rattle.std.proofs.lemmas.List.{get_or_read}
use Rattle.dep_search.specs.Found.{all_found, found_on, side_at}
use Rattle.dep_search.proofs.Agreed.{none_left}
use Rattle.dep_search.proofs.ahead.are_more.Goals as goal

pub returns-in-None : goal.returns-in-None
unfolding all_found
returns-in-None c = λ _.
    let table = c.args.table.now in
    let sides = c.args.sides.now in
    let number = c.loop-number.number in
    let attrs = length table.columns.now in
    let side : c.as_slice.result.now ≡ side_at sides number =
    c.as_slice.ensures ∙ get_or_read sides number c.index-sides-number.result c.loop-number-test.true c.index-sides-number.is [] in
    let none : (n : ℕ) → c.loop-number.room < length (found_on table.rows.now table.support attrs n (side_at sides number)) =
    rw (c.in-None.is, side) at c.in_ok-left_of.ensures.none in
    none_left (λ side. found_on table.rows.now table.support attrs side (side_at sides side)) c.args.most c.loop-number.room number (length sides)
    c.loop-number-test.true c.loop-number.invariant (none number)
