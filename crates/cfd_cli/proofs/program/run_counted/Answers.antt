use Rattle.std.proofs.Common.{ap, sym, ◌∙◌}
use Rattle.call_words.specs.Words.{form_of}
use Rattle.cfd_cli.specs.Forms.{counted_form_task, form_task}
use Rattle.cfd_cli.proofs.Usage.{usage-written}
use Rattle.cfd_cli.proofs.program.run_counted.Goals as goal

pub returns-in-Ok-None-clause-written : goal.returns-in-Ok-None-clause-written
returns-in-Ok-None-clause-written g c =
    let limits = c.args.limits.now in
    usage-written (form_task limits) limits (g.S.Shelf.told c.args.shelf.now).holding (form_of c.args.words.now) c.as_bytes.result.now c.end_with.result (g.O.Sink.told c.args.out.now).written (g.O.Sink.told c.end_with.new.out).written
    (λ w. w) (sym c.in-Ok-None.field-0-is ∙ (c.in-Ok-None.ensures.form ∙ ap form_of c.as_slice.ensures)) c.as_bytes.ensures.value c.end_with.ensures.ends.writes

pub returns-in-Ok-None-clause-probes : goal.returns-in-Ok-None-clause-probes
returns-in-Ok-None-clause-probes g c = λ whole.
    let limits = c.args.limits.now in
    usage-written (counted_form_task c.args.steps.now c.args.steps.now limits) limits (g.S.Shelf.told c.args.shelf.now).holding (form_of c.args.words.now) c.as_bytes.result.now c.end_with.result (g.O.Sink.told c.args.out.now).written (g.O.Sink.told c.end_with.new.out).written
    (λ w. w) (sym c.in-Ok-None.field-0-is ∙ (c.in-Ok-None.ensures.form ∙ ap form_of c.as_slice.ensures)) c.as_bytes.ensures.value c.end_with.ensures.ends.writes
