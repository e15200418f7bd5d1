use Rattle.std.proofs.Common.{◌≡◌, ◌⊎◌, ◌↔◌, sym, subst}
use Rattle.std.specs.Prelude.{IsTrue}
use Rattle.std.specs.List.{Contains}
use Rattle.cind_index.specs.declared.side.Side.TheVariants.{Left}
use Rattle.cind_index.specs.declared.both_sides.BothSides.{BothSides}
use Rattle.cind_index.specs.declared.key_rows.KeyRows.{KeyRows}
use Rattle.cind_index.specs.RowsHeld.{has, rows_on, side_of}
use Rattle.cind_index.proofs.MapFacts.{on_ok}
use Rattle.cind_index.proofs.key_rows.KeyRows.push_lefts.Goals as goal

pub returns-in-LoneLeft : goal.returns-in-LoneLeft
returns-in-LoneLeft c =
    on_ok c.push_lone.result (λ step row.
    subst (λ (rows : KeyRows). Contains c.push_lone.new.found.items row ↔ (Contains c.args.found.now.items row ⊎ IsTrue (has (rows_on rows Left) c.args.pattern.now row))) (sym c.in-LoneLeft.is) (step row)) c.push_lone.ensures

pub returns-in-OneEach : goal.returns-in-OneEach
returns-in-OneEach c =
    on_ok c.push_lone-in-OneEach.result (λ step row.
    subst (λ (rows : KeyRows). Contains c.push_lone-in-OneEach.new.found.items row ↔ (Contains c.args.found.now.items row ⊎ IsTrue (has (rows_on rows Left) c.args.pattern.now row))) (sym c.in-OneEach.is) (step row)) c.push_lone-in-OneEach.ensures

pub returns-in-LeftWith : goal.returns-in-LeftWith
returns-in-LeftWith c =
    on_ok c.push_lone-in-LeftWith.result (λ step row.
    subst (λ (rows : KeyRows). Contains c.push_lone-in-LeftWith.new.found.items row ↔ (Contains c.args.found.now.items row ⊎ IsTrue (has (rows_on rows Left) c.args.pattern.now row))) (sym c.in-LeftWith.is) (step row)) c.push_lone-in-LeftWith.ensures

pub returns-in-Boxed : goal.returns-in-Boxed
returns-in-Boxed c =
    let same : c.deref.result.now ≡ c.in-Boxed.sides.value = cc in
    on_ok c.push_rows.result (λ step row.
    subst (λ (rows : KeyRows). Contains c.push_rows.new.found.items row ↔ (Contains c.args.found.now.items row ⊎ IsTrue (has (rows_on rows Left) c.args.pattern.now row))) (sym c.in-Boxed.is)
    (subst (λ (sides : BothSides). Contains c.push_rows.new.found.items row ↔ (Contains c.args.found.now.items row ⊎ IsTrue (has (side_of sides Left) c.args.pattern.now row))) same (step row))) c.push_rows.ensures
