use Rattle.std.proofs.Common.{refl, subst, sym}
use Rattle.cli_output.specs.declared.status.Status.TheVariants.{Usage}
use Rattle.cli_output.specs.Output.{Output, Writes}
use Rattle.cli_output.proofs.Outputs.{output-found}
use Rattle.shelf_io.proofs.Transcripts.{Appends-nothing}
use Rattle.view_words.specs.declared.form.Asked.{Asked}
use Rattle.cfd_view.specs.Asked.{asked_task, usage_task}
use Rattle.cfd_view.proofs.program.answer.Goals as goal

pub returns-in-Nothing-clause-written : goal.returns-in-Nothing-clause-written
returns-in-Nothing-clause-written g c =
    let limits = c.args.limits.now in
    let holding = (g.S.Shelf.told c.args.shelf.now).holding in
    let told = (g.O.Sink.told c.args.out.now).written in
    subst (λ (asked : Asked). Writes (Output limits (asked_task limits asked) holding) Usage told told) (sym c.in-Nothing.is)
    (output-found limits usage_task holding tt (λ files is. refl) Usage told told (Appends-nothing told (refl, refl)))
