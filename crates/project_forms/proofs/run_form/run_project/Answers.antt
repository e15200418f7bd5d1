use Rattle.std.proofs.Common.{arith}
use Rattle.project_forms.specs.RunForm.{counted_from, counted_run_task, run_task}
use Rattle.project_files.specs.Project.{read_of}
use Rattle.cli_output.proofs.Outputs.{output-found, output-stopped, uses-stopped}
use Rattle.project_forms.proofs.Loaded.{writes-once_loaded}
use Rattle.project_forms.proofs.run_form.run_project.Goals as goal

pub returns-in-Ok-clause-written : goal.returns-in-Ok-clause-written
returns-in-Ok-clause-written g c =
    let limits = c.args.limits.now in
    output-found limits (run_task limits c.args.project.now) (g.S.Shelf.told c.args.shelf.now).holding (read_of c.in-Ok.project) c.in-Ok.ensures.fetches.gives
    c.answer-status.result (g.O.Sink.told c.args.out.now).written (g.O.Sink.told c.answer-status.new.out).written c.answer-status.ensures.ends.writes

pub returns-in-Err-clause-written : goal.returns-in-Err-clause-written
returns-in-Err-clause-written g c =
    let limits = c.args.limits.now in
    output-stopped limits (run_task limits c.args.project.now) (g.S.Shelf.told c.args.shelf.now).holding c.in-Err.stop c.in-Err.ensures.fetches.gives
    c.end_by.result (g.O.Sink.told c.args.out.now) (g.O.Sink.told c.end_by.new.out) c.end_by.ensures

pub returns-in-Ok-clause-probes : goal.returns-in-Ok-clause-probes
returns-in-Ok-clause-probes g c = λ whole.
    let limits = c.args.limits.now in
    let project = read_of c.in-Ok.project in
    let before = (g.O.Sink.told c.args.out.now).written in
    let after = (g.O.Sink.told c.answer-status.new.out).written in
    output-found limits (counted_run_task c.args.steps.now c.answer-status.new.steps limits c.args.project.now) (g.S.Shelf.told c.args.shelf.now).holding project c.in-Ok.ensures.fetches.gives
    c.answer-status.result before after
    (writes-once_loaded c.args.steps.now c.fetch_project.new.steps project.tables (λ begun. counted_from begun c.answer-status.new.steps project) c.in-Ok.ensures.probes c.answer-status.result before after (c.answer-status.ensures.probes whole))

pub returns-in-Err-clause-probes : goal.returns-in-Err-clause-probes
returns-in-Err-clause-probes g c = λ whole.
    let limits = c.args.limits.now in
    output-stopped limits (counted_run_task c.args.steps.now c.fetch_project.new.steps limits c.args.project.now) (g.S.Shelf.told c.args.shelf.now).holding c.in-Err.stop c.in-Err.ensures.fetches.gives
    c.end_by.result (g.O.Sink.told c.args.out.now) (g.O.Sink.told c.end_by.new.out) c.end_by.ensures

pub returns-in-Err-clause-devices : goal.returns-in-Err-clause-devices
returns-in-Err-clause-devices g c =
    let limits = c.args.limits.now in
    uses-stopped limits (run_task limits c.args.project.now) _ c.in-Err.stop c.end_by.result (g.S.Shelf.told c.args.shelf.now) (g.S.Shelf.told c.fetch_project.new.shelf) (g.O.Sink.told c.args.out.now) (g.O.Sink.told c.end_by.new.out) c.fetch_project.new.left (omega arith)
    c.in-Err.ensures.fetches c.end_by.ensures
