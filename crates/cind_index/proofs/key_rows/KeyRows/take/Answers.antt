use Rattle.std.proofs.Common.{◌≡◌, false, true, ap, subst, ◌∙◌}
use Rattle.cind_index.specs.RowsHeld.{is_boxed, side_of, across, is_few, rows_on, IsLeftOf}
use Rattle.cind_index.specs.declared.both_sides.BothSides.{BothSides}
use Rattle.cind_index.proofs.RowFacts.{placed_unless, left_in_place, found_in_place}
use Rattle.cind_index.proofs.key_rows.KeyRows.take.Goals as goal

pub unwrap-requires : goal.unwrap-requires
unwrap-requires c =
    let placed : is_boxed c.args.self.now ≡ false = placed_unless c.args.self.now c.in_default.not-Boxed in
    let here : is_few (rows_on c.args.self.now c.args.side) ≡ true → IsLeftOf (rows_on c.args.self.now c.args.side) (side_of c.take-2.new.self c.args.side) =
    subst (λ (sides : BothSides). is_few (side_of sides c.args.side) ≡ true → IsLeftOf (side_of sides c.args.side) (side_of c.take-2.new.self c.args.side)) c.in_place-sides.ensures c.take-2.ensures.here in
    let beside = c.take-2.ensures.beside ∙ ap (λ (sides : BothSides). side_of sides (across c.args.side)) c.in_place-sides.ensures in
    found_in_place c.unboxed-2.result c.take-2.new.self c.unboxed-2.ensures.none (left_in_place c.args.self.now c.args.side c.take-2.new.self placed here beside)
