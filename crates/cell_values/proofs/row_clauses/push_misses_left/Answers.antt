use Rattle.std.proofs.Common.{inl, inr, ◌≡◌, [], ◌++◌, ap}
use Rattle.std.specs.List.{flat_map}
use Rattle.std.specs.Prelude.{zip}
use Rattle.cell_values.proofs.Lists.{zip_left_ended, zip_right_ended}
use Rattle.cell_values.specs.RowClauses.{misses_at, misses_left}
use Rattle.cell_values.proofs.Loops.{nothing_left}
use Rattle.cell_values.proofs.row_clauses.push_misses_left.Goals as goal

pub returns : goal.returns
returns c =
    let left = c.loop-attr.attr-iterator.a.rest.now in
    let right = c.loop-attr.attr-iterator.b.rest.now in
    let f = misses_at c.args.cells.now c.args.which in
    let ended : zip left right ≡ [] = elim c.in-None.ensures.steps [ inl p ↦ zip_left_ended left right p.1.0 | inr p ↦ zip_right_ended left right p.1.0 ] in
    nothing_left c.loop-attr.clause.items (flat_map f (zip left right)) (c.args.clause.now.items ++ misses_left c.args.cells.now c.args.which c.args.rule.now c.args.row.now) (ap (flat_map f) ended) c.loop-attr.invariant
