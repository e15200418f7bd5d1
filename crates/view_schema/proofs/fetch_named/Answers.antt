use Rattle.std.proofs.Common.{◌≡◌, ℕ, ◌+◌, List, [], ◌∷◌, length, refl, subst, ◌∙◌, arith}
use Rattle.schema_core.specs.declared.schema.Table.{Table}
use Rattle.schema_draft.specs.Drafts.{tables_from}
use Rattle.cli_output.specs.Fetching.{Fetches}
use Rattle.view_schema.specs.SchemaForm.{fetch_sheets}
use Rattle.view_schema.proofs.fetch_named.Goals as goal

-- a table for each file
length-tables : (number : ℕ) (files : List (List ℕ)) → length (tables_from number files) ≡ length files
length-tables number [] = refl
length-tables number (file ∷ files) = omega (arith, length-tables (number + 1) files)

pub returns : goal.returns
returns g c =
    let limits = c.args.limits.now in
    let files = c.args.files.now in
    let shelf = g.S.Shelf.told c.args.shelf.now in
    let after = g.S.Shelf.told c.fetch_sheets.new.shelf in
    subst (λ most. Fetches (fetch_sheets limits (tables_from 1 files)) (λ sheets. sheets) most c.fetch_sheets.result shelf after c.args.left.now c.fetch_sheets.new.left) (length-tables 1 files)
    (subst (λ (tables : List Table). Fetches (fetch_sheets limits tables) (λ sheets. sheets) (length tables) c.fetch_sheets.result shelf after c.args.left.now c.fetch_sheets.new.left) (c.as_slice.ensures ∙ c.in_ok-tables.ensures)
    c.fetch_sheets.ensures)
