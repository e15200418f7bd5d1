use Rattle.std.proofs.Common.{inl, inr, ◌≡◌, [], ◌++◌, ap}
use Rattle.std.specs.List.{flat_map}
use Rattle.std.specs.Prelude.{zip}
use Rattle.cell_values.proofs.Lists.{zip_left_ended, zip_right_ended}
use Rattle.cfd_implication.specs.Question.{asked_cell}
use Rattle.cell_values.proofs.Loops.{nothing_left}
use Rattle.cfd_implication.proofs.rows.push_asked_cells.Goals as goal

pub returns : goal.returns
returns c =
    let left = c.loop-attr.attr-iterator.a.rest.now in
    let right = c.loop-attr.attr-iterator.b.rest.now in
    let f = asked_cell c.args.cells.now in
    let ended : zip left right ≡ [] = elim c.in-None.ensures.steps [ inl p ↦ zip_left_ended left right p.1.0 | inr p ↦ zip_right_ended left right p.1.0 ] in
    nothing_left c.loop-attr.out (flat_map f (zip left right)) (c.args.out.now ++ flat_map f (zip c.args.asked.now.x c.args.row.now.x)) (ap (flat_map f) ended) c.loop-attr.invariant
