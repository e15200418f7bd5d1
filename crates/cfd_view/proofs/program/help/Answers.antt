use Rattle.std.proofs.Common.{refl}
use Rattle.cli_output.specs.declared.status.Status.TheVariants.{Clean}
use Rattle.cli_output.specs.Output.{Only}
use Rattle.cli_output.proofs.Outputs.{Writes-wider, output-found}
use Rattle.cfd_view.specs.Asked.{help_task}
use Rattle.cfd_view.proofs.program.help.Goals as goal

pub returns-in-Ok-clause-written : goal.returns-in-Ok-clause-written
returns-in-Ok-clause-written g c =
    let limits = c.args.limits.now in
    let holding = (g.S.Shelf.told c.args.shelf.now).holding in
    let before = (g.O.Sink.told c.args.out.now).written in
    let after = (g.O.Sink.told c.end_with.new.out).written in
    let status = c.end_with.result in
    let text = Writes-wider (Only c.as_bytes.result.now Clean) (help_task.outputs tt) (λ bytes s o. o.1) status before after c.end_with.ensures.ends.writes in
    output-found limits help_task holding tt (λ files told. refl) status before after text
