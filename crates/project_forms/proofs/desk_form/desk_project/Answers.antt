use Rattle.std.proofs.Common.{arith}
use Rattle.project_forms.specs.DeskForm.{counted_desk_task, counted_transcripts, desk_task, opened, read_of}
use Rattle.cli_output.proofs.Outputs.{output-found, output-stopped, uses-stopped}
use Rattle.project_forms.proofs.Loaded.{writes-once_loaded}
use Rattle.project_forms.proofs.desk_form.desk_project.Goals as goal

pub returns-in-Ok-clause-written : goal.returns-in-Ok-clause-written
returns-in-Ok-clause-written g c =
    let limits = c.args.limits.now in
    output-found limits (desk_task limits c.args.project.now c.args.events.now) (g.S.Shelf.told c.args.shelf.now).holding (read_of c.in-Ok.files) c.in-Ok.ensures.fetches.gives
    c.answer.result (g.O.Sink.told c.args.out.now).written (g.O.Sink.told c.answer.new.out).written c.answer.ensures.ends.writes

pub returns-in-Err-clause-written : goal.returns-in-Err-clause-written
returns-in-Err-clause-written g c =
    let limits = c.args.limits.now in
    output-stopped limits (desk_task limits c.args.project.now c.args.events.now) (g.S.Shelf.told c.args.shelf.now).holding c.in-Err.stop c.in-Err.ensures.fetches.gives
    c.end_by.result (g.O.Sink.told c.args.out.now) (g.O.Sink.told c.end_by.new.out) c.end_by.ensures

pub returns-in-Ok-clause-probes : goal.returns-in-Ok-clause-probes
returns-in-Ok-clause-probes g c = λ whole.
    let limits = c.args.limits.now in
    let files = read_of c.in-Ok.files in
    let before = (g.O.Sink.told c.args.out.now).written in
    let after = (g.O.Sink.told c.answer.new.out).written in
    output-found limits (counted_desk_task c.args.steps.now c.answer.new.steps limits c.args.project.now c.args.events.now) (g.S.Shelf.told c.args.shelf.now).holding files c.in-Ok.ensures.fetches.gives
    c.answer.result before after
    (writes-once_loaded c.args.steps.now c.fetch_desk.new.steps files.tables (λ begun. counted_transcripts begun c.answer.new.steps (opened limits.last_id files.tables) files.events) c.in-Ok.ensures.probes c.answer.result before after (c.answer.ensures.probes whole))

pub returns-in-Err-clause-probes : goal.returns-in-Err-clause-probes
returns-in-Err-clause-probes g c = λ whole.
    let limits = c.args.limits.now in
    output-stopped limits (counted_desk_task c.args.steps.now c.fetch_desk.new.steps limits c.args.project.now c.args.events.now) (g.S.Shelf.told c.args.shelf.now).holding c.in-Err.stop c.in-Err.ensures.fetches.gives
    c.end_by.result (g.O.Sink.told c.args.out.now) (g.O.Sink.told c.end_by.new.out) c.end_by.ensures

pub returns-in-Err-clause-devices : goal.returns-in-Err-clause-devices
returns-in-Err-clause-devices g c =
    let limits = c.args.limits.now in
    uses-stopped limits (desk_task limits c.args.project.now c.args.events.now) _ c.in-Err.stop c.end_by.result (g.S.Shelf.told c.args.shelf.now) (g.S.Shelf.told c.fetch_desk.new.shelf) (g.O.Sink.told c.args.out.now) (g.O.Sink.told c.end_by.new.out) c.fetch_desk.new.left (omega arith)
    c.in-Err.ensures.fetches c.end_by.ensures
