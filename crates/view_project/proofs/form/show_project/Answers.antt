use Rattle.std.proofs.Common.{ℕ, List, subst}
use Rattle.cli_output.specs.Output.{Output, UsesDevices, Writes}
use Rattle.view_project.specs.ProjectTask.{project_task}
use Rattle.view_project.proofs.form.show_project.Goals as goal

pub returns-clause-written : goal.returns-clause-written
returns-clause-written g c =
    let limits = c.args.limits.now in
    let outputs = g.F.ProjectForm.outputs c.args.options.now in
    subst (λ (name : List ℕ). Writes (Output limits (project_task limits name outputs) (g.S.Shelf.told c.args.shelf.now).holding) c.show_named.result (g.O.Sink.told c.args.out.now).written (g.O.Sink.told c.show_named.new.out).written)
    c.project.ensures c.show_named.ensures.written

pub returns-clause-devices : goal.returns-clause-devices
returns-clause-devices g c =
    let limits = c.args.limits.now in
    let outputs = g.F.ProjectForm.outputs c.args.options.now in
    subst (λ (name : List ℕ). UsesDevices limits (project_task limits name outputs) c.show_named.result (g.S.Shelf.told c.args.shelf.now) (g.S.Shelf.told c.show_named.new.shelf) (g.O.Sink.told c.args.out.now) (g.O.Sink.told c.show_named.new.out))
    c.project.ensures c.show_named.ensures.devices
