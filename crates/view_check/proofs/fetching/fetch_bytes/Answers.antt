use Rattle.cli_output.specs.Fetching.{file}
use Rattle.view_check.proofs.SeenSteps.{fetches-failed, fetches-viewed}
use Rattle.view_check.proofs.fetching.fetch_bytes.Goals as goal

pub returns-in-Ok : goal.returns-in-Ok
returns-in-Ok g c = fetches-viewed (file c.args.limits.now c.args.name.now) (λ b. b.items) 1 c.in-Ok.bytes c.from.result _ _ _ _ c.from.ensures c.in-Ok.ensures

pub returns-in-Err : goal.returns-in-Err
returns-in-Err g c = fetches-failed (file c.args.limits.now c.args.name.now) (λ b. b.items) (λ x. x) 1 c.in-Err.stop _ _ _ _ c.in-Err.ensures
