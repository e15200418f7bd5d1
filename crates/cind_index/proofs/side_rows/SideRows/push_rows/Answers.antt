use Rattle.std.proofs.Common.{◌≡◌, ◌⊎◌, ◌↔◌, sym, subst}
use Rattle.std.specs.Prelude.{IsTrue}
use Rattle.std.specs.List.{Contains}
use Rattle.cind_index.specs.declared.pattern_rows.PatternRows.{PatternRows}
use Rattle.cind_index.specs.declared.side_rows.SideRows.{SideRows}
use Rattle.cind_index.specs.RowsHeld.{has, has_by}
use Rattle.cind_index.proofs.MapFacts.{on_ok}
use Rattle.cind_index.proofs.side_rows.SideRows.push_rows.Goals as goal

pub returns-in-Lone : goal.returns-in-Lone
returns-in-Lone c =
    on_ok c.push_lone.result (λ step row.
    subst (λ (rows : SideRows). Contains c.push_lone.new.found.items row ↔ (Contains c.args.found.now.items row ⊎ IsTrue (has rows c.args.pattern.now row))) (sym c.in-Lone.is) (step row)) c.push_lone.ensures

pub returns-in-LoneWith : goal.returns-in-LoneWith
returns-in-LoneWith c =
    on_ok c.push_lone-in-LoneWith.result (λ step row.
    subst (λ (rows : SideRows). Contains c.push_lone-in-LoneWith.new.found.items row ↔ (Contains c.args.found.now.items row ⊎ IsTrue (has rows c.args.pattern.now row))) (sym c.in-LoneWith.is) (step row)) c.push_lone-in-LoneWith.ensures

pub returns-in-Rows : goal.returns-in-Rows
returns-in-Rows c =
    let same : c.deref.result.now ≡ c.in-Rows.rows.value = cc in
    on_ok c.push_rows.result (λ step row.
    subst (λ (rows : SideRows). Contains c.push_rows.new.found.items row ↔ (Contains c.args.found.now.items row ⊎ IsTrue (has rows c.args.pattern.now row))) (sym c.in-Rows.is)
    (subst (λ (rows : PatternRows). Contains c.push_rows.new.found.items row ↔ (Contains c.args.found.now.items row ⊎ IsTrue (has_by rows c.args.pattern.now row))) same (step row))) c.push_rows.ensures
