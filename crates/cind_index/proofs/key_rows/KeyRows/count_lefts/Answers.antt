use Rattle.std.proofs.Common.{◌≡◌, refl, sym, subst}
use Rattle.cind_index.specs.declared.side.Side.TheVariants.{Left}
use Rattle.cind_index.specs.declared.both_sides.BothSides.{BothSides}
use Rattle.cind_index.specs.declared.key_rows.KeyRows.{KeyRows}
use Rattle.cind_index.specs.declared.side_rows.SideRows.TheVariants.{Empty}
use Rattle.cind_index.specs.RowsHeld.{has, rows_on, side_of, HoldsSoMany}
use Rattle.cind_index.proofs.CountFacts.{holds_none}
use Rattle.cind_index.proofs.key_rows.KeyRows.count_lefts.Goals as goal

pub returns-in-LoneLeft : goal.returns-in-LoneLeft
returns-in-LoneLeft c = subst (λ (rows : KeyRows). HoldsSoMany (has (rows_on rows Left) c.args.pattern.now) c.count_lone.result) (sym c.in-LoneLeft.is) (c.count_lone.ensures _)

pub returns-in-OneEach : goal.returns-in-OneEach
returns-in-OneEach c = subst (λ (rows : KeyRows). HoldsSoMany (has (rows_on rows Left) c.args.pattern.now) c.count_lone-in-OneEach.result) (sym c.in-OneEach.is) (c.count_lone-in-OneEach.ensures _)

pub returns-in-LeftWith : goal.returns-in-LeftWith
returns-in-LeftWith c = subst (λ (rows : KeyRows). HoldsSoMany (has (rows_on rows Left) c.args.pattern.now) c.count_lone-in-LeftWith.result) (sym c.in-LeftWith.is) (c.count_lone-in-LeftWith.ensures _)

pub returns-in-Boxed : goal.returns-in-Boxed
returns-in-Boxed c =
    let same : c.deref.result.now ≡ c.in-Boxed.sides.value = cc in
    subst (λ (rows : KeyRows). HoldsSoMany (has (rows_on rows Left) c.args.pattern.now) c.count_rows.result) (sym c.in-Boxed.is)
    (subst (λ (sides : BothSides). HoldsSoMany (has (side_of sides Left) c.args.pattern.now) c.count_rows.result) same c.count_rows.ensures)

pub returns-in-NoRows : goal.returns-in-NoRows
returns-in-NoRows c = subst (λ (rows : KeyRows). HoldsSoMany (has (rows_on rows Left) c.args.pattern.now) 0) (sym c.in-NoRows.is) (holds_none (has Empty c.args.pattern.now) 0 (λ row. refl) refl)

pub returns-in-LoneRight : goal.returns-in-LoneRight
returns-in-LoneRight c = subst (λ (rows : KeyRows). HoldsSoMany (has (rows_on rows Left) c.args.pattern.now) 0) (sym c.in-LoneRight.is) (holds_none (has Empty c.args.pattern.now) 0 (λ row. refl) refl)

pub returns-in-RightWith : goal.returns-in-RightWith
returns-in-RightWith c = subst (λ (rows : KeyRows). HoldsSoMany (has (rows_on rows Left) c.args.pattern.now) 0) (sym c.in-RightWith.is) (holds_none (has Empty c.args.pattern.now) 0 (λ row. refl) refl)
