use Rattle.std.proofs.Common.{sym, subst}
use Rattle.cli_output.specs.Fetching.{Fetches}
use Rattle.cli_output.specs.RuleFiles.{fetch_schema}
use Rattle.view_check.specs.Seen.{again}
use Rattle.view_check.proofs.SeenSteps.{again-fetches}
use Rattle.view_check.proofs.fetching.fetch_schema_again.Goals as goal

pub returns : goal.returns
returns g c =
    subst (λ r. Fetches (again c.args.limits.now (fetch_schema c.args.limits.now c.args.name.now)) (λ x. x) 1 r (g.S.Shelf.told c.args.shelf.now) (g.S.Shelf.told c.fetch_schema.new.shelf) 0 0) (sym c.passing_over.ensures)
    (again-fetches c.args.limits.now 1 (fetch_schema c.args.limits.now c.args.name.now) c.fetch_schema.result _ _ _ 0 c.fetch_schema.ensures.schema)
