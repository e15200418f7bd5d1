use Rattle.std.proofs.Common.{Some, refl, subst, sym}
use Rattle.call_words.specs.declared.form.Form.{Form}
use Rattle.cli_output.specs.Output.{Output, Writes}
use Rattle.cli_output.proofs.Outputs.{output-found}
use Rattle.cfd_cli.specs.Forms.{counted_form_task, form_task}
use Rattle.project_forms.specs.GenerateForm.{generate_task}
use Rattle.cfd_cli.proofs.program.answer.Goals as goal

pub returns-in-Generate-clause-written : goal.returns-in-Generate-clause-written
returns-in-Generate-clause-written g c =
    let limits = c.args.limits.now in
    let holding = (g.S.Shelf.told c.args.shelf.now).holding in
    let before = (g.O.Sink.told c.args.out.now).written in
    let after = (g.O.Sink.told c.generate_project.new.out).written in
    let status = c.generate_project.result in
    subst (λ (form : Form). Writes (Output limits (form_task limits (Some form)) holding) status before after) (sym c.in-Generate.is)
    (output-found limits (generate_task c.in-Generate.seed) holding tt (λ files told. refl) status before after c.generate_project.ensures.writes)

pub returns-in-Generate-clause-probes : goal.returns-in-Generate-clause-probes
returns-in-Generate-clause-probes g c = λ whole.
    let limits = c.args.limits.now in
    let holding = (g.S.Shelf.told c.args.shelf.now).holding in
    let before = (g.O.Sink.told c.args.out.now).written in
    let after = (g.O.Sink.told c.generate_project.new.out).written in
    let status = c.generate_project.result in
    subst (λ (form : Form). Writes (Output limits (counted_form_task c.args.steps.now c.generate_project.new.steps limits (Some form)) holding) status before after) (sym c.in-Generate.is)
    (output-found limits (generate_task c.in-Generate.seed) holding tt (λ files told. refl) status before after c.generate_project.ensures.writes)
