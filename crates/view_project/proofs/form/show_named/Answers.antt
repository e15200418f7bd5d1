use Rattle.std.proofs.Common.{arith}
use Rattle.project_files.specs.Project.{read_of}
use Rattle.cli_output.proofs.Outputs.{output-found, output-stopped, uses-stopped}
use Rattle.view_project.specs.ProjectTask.{project_task}
use Rattle.view_project.proofs.form.show_named.Goals as goal

pub returns-in-Ok-clause-written : goal.returns-in-Ok-clause-written
returns-in-Ok-clause-written g c =
    let limits = c.args.limits.now in
    let options = c.args.options.now in
    let form = g.F.ProjectForm in
    output-found limits (project_task limits c.args.name.now (form.outputs options)) (g.S.Shelf.told c.args.shelf.now).holding (read_of c.in-Ok.project) c.in-Ok.ensures.fetches.gives
    c.show_fetched.result (g.O.Sink.told c.args.out.now).written (g.O.Sink.told c.show_fetched.new.out).written c.show_fetched.ensures.writes

pub returns-in-Err-clause-written : goal.returns-in-Err-clause-written
returns-in-Err-clause-written g c =
    let limits = c.args.limits.now in
    let options = c.args.options.now in
    let form = g.F.ProjectForm in
    output-stopped limits (project_task limits c.args.name.now (form.outputs options)) (g.S.Shelf.told c.args.shelf.now).holding c.in-Err.stop c.in-Err.ensures.fetches.gives
    c.end_by.result (g.O.Sink.told c.args.out.now) (g.O.Sink.told c.end_by.new.out) c.end_by.ensures

pub returns-in-Err-clause-devices : goal.returns-in-Err-clause-devices
returns-in-Err-clause-devices g c =
    let limits = c.args.limits.now in
    let options = c.args.options.now in
    let form = g.F.ProjectForm in
    uses-stopped limits (project_task limits c.args.name.now (form.outputs options)) _ c.in-Err.stop c.end_by.result (g.S.Shelf.told c.args.shelf.now) (g.S.Shelf.told c.fetch_project.new.shelf) (g.O.Sink.told c.args.out.now) (g.O.Sink.told c.end_by.new.out) c.fetch_project.new.left (omega arith)
    c.in-Err.ensures.fetches c.end_by.ensures
