use Rattle.std.proofs.Common.{List, length, subst}
use Rattle.schema_core.specs.declared.schema.Table.{Table}
use Rattle.cli_output.specs.Fetching.{Fetches}
use Rattle.project_files.specs.Project.{fetch_tables}
use Rattle.view_check.proofs.SeenSteps.{fetches-at_most}
use Rattle.view_check.proofs.fetching.fetch_few.Goals as goal

pub returns : goal.returns
returns g c =
    let limits = c.args.limits.now in
    let tables = c.args.schema.now.tables in
    fetches-at_most (fetch_tables limits tables) (λ x. x) (length tables) 64 _ _ _ _ _ c.requires.valid.few_tables
    (subst (λ (ts : List Table). Fetches (fetch_tables limits ts) (λ x. x) (length ts) c.fetch_tables.result (g.S.Shelf.told c.args.shelf.now) (g.S.Shelf.told c.fetch_tables.new.shelf) c.args.left.now c.fetch_tables.new.left) c.as_slice.ensures c.fetch_tables.ensures.tables)
