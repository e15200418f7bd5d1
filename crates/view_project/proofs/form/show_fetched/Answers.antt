use Rattle.std.proofs.Common.{ℕ, List, subst, sym}
use Rattle.cli_output.specs.declared.status.Status.{Status}
use Rattle.cli_output.specs.Output.{Only}
use Rattle.cli_output.proofs.Outputs.{Ends-wider}
use Rattle.project_files.specs.Project.{read_of}
use Rattle.view_project.proofs.form.show_fetched.Goals as goal

pub returns-in-Ok : goal.returns-in-Ok
returns-in-Ok g c =
    let outputs = g.F.ProjectForm.outputs c.args.options.now (read_of c.args.project) in
    let shown = c.in-Ok.shown in
    Ends-wider (Only c.deref.result.now shown.status) outputs
    (λ (bytes : List ℕ) (status : Status) o. subst (λ s. outputs bytes s) (sym o.1) (subst (λ b. outputs b shown.status) (sym o.0) (subst (λ b. outputs b shown.status) (sym c.deref.ensures.value) c.in-Ok.ensures.shown)))
    c.end_with.result (g.O.Sink.told c.args.out.now) (g.O.Sink.told c.end_with.new.out) c.end_with.ensures.ends
