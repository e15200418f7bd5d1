use Rattle.std.proofs.Common.{◌≡◌, refl, sym, subst}
use Rattle.cind_index.specs.declared.pattern_rows.PatternRows.{PatternRows}
use Rattle.cind_index.specs.declared.side_rows.SideRows.{SideRows}
use Rattle.cind_index.specs.declared.side_rows.SideRows.TheVariants.{Empty}
use Rattle.cind_index.specs.RowsHeld.{has, has_by, HoldsSoMany}
use Rattle.cind_index.proofs.CountFacts.{holds_none}
use Rattle.cind_index.proofs.side_rows.SideRows.count_rows.Goals as goal

pub returns-in-Empty : goal.returns-in-Empty
returns-in-Empty c = subst (λ (rows : SideRows). HoldsSoMany (has rows c.args.pattern.now) 0) (sym c.in-Empty.is) (holds_none (has Empty c.args.pattern.now) 0 (λ row. refl) refl)

pub returns-in-Lone : goal.returns-in-Lone
returns-in-Lone c = subst (λ (rows : SideRows). HoldsSoMany (has rows c.args.pattern.now) c.count_lone.result) (sym c.in-Lone.is) (c.count_lone.ensures _)

pub returns-in-LoneWith : goal.returns-in-LoneWith
returns-in-LoneWith c = subst (λ (rows : SideRows). HoldsSoMany (has rows c.args.pattern.now) c.count_lone-in-LoneWith.result) (sym c.in-LoneWith.is) (c.count_lone-in-LoneWith.ensures _)

pub returns-in-Rows : goal.returns-in-Rows
returns-in-Rows c =
    let same : c.deref.result.now ≡ c.in-Rows.rows.value = cc in
    subst (λ (rows : SideRows). HoldsSoMany (has rows c.args.pattern.now) c.count_rows.result) (sym c.in-Rows.is) (subst (λ (rows : PatternRows). HoldsSoMany (has_by rows c.args.pattern.now) c.count_rows.result) same c.count_rows.ensures)
