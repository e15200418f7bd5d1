use Rattle.std.proofs.Common.{subst, sym}
use Rattle.cli_output.specs.Output.{UsesDevices}
use Rattle.view_words.specs.declared.form.Form.{Form}
use Rattle.cfd_view.specs.Asked.{form_task}
use Rattle.cfd_view.proofs.program.answer_form.Goals as goal

pub returns-in-Check-clause-devices : goal.returns-in-Check-clause-devices
returns-in-Check-clause-devices g c =
    subst (λ (form : Form). UsesDevices c.args.limits.now (form_task c.args.limits.now form) c.look_at_project.result (g.S.Shelf.told c.args.shelf.now) (g.S.Shelf.told c.look_at_project.new.shelf) (g.O.Sink.told c.args.out.now) (g.O.Sink.told c.look_at_project.new.out))
    (sym c.in-Check.is) c.look_at_project.ensures.devices
