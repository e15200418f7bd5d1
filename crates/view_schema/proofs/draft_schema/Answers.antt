use Rattle.std.proofs.Common.{List, subst}
use Rattle.cli_output.specs.Output.{Writes}
use Rattle.cli_output.proofs.Outputs.{output-found, output-stopped}
use Rattle.schema_draft.specs.declared.sheet.Sheet.{Sheet}
use Rattle.view_schema.specs.SchemaForm.{schema_outputs, schema_task}
use Rattle.view_schema.proofs.draft_schema.Goals as goal

pub returns-in-Ok-clause-written : goal.returns-in-Ok-clause-written
returns-in-Ok-clause-written g c =
    let limits = c.args.limits.now in
    output-found limits (schema_task limits c.args.files.now) (g.S.Shelf.told c.args.shelf.now).holding c.in-Ok.sheets c.in-Ok.ensures.gives
    c.answer.result (g.O.Sink.told c.args.out.now).written (g.O.Sink.told c.answer.new.out).written
    (subst (λ (sheets : List Sheet). Writes (schema_outputs sheets) c.answer.result (g.O.Sink.told c.args.out.now).written (g.O.Sink.told c.answer.new.out).written) c.as_slice.ensures c.answer.ensures.writes)

pub returns-in-Err-clause-written : goal.returns-in-Err-clause-written
returns-in-Err-clause-written g c =
    let limits = c.args.limits.now in
    output-stopped limits (schema_task limits c.args.files.now) (g.S.Shelf.told c.args.shelf.now).holding c.in-Err.stop c.in-Err.ensures.gives
    c.end_by.result (g.O.Sink.told c.args.out.now) (g.O.Sink.told c.end_by.new.out) c.end_by.ensures
