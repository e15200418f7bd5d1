use Rattle.rule_forms.specs.CoverForm.{cover_outputs}
use Rattle.rule_forms.proofs.CertAnswers.{told_written}
use Rattle.rule_forms.proofs.cover_form.answer.Goals as goal

pub returns-in-Ok : goal.returns-in-Ok
returns-in-Ok g c =
    let told = c.in-Ok.told in
    told_written (cover_outputs c.args.table.now c.args.budget c.args.rules.now) told.text.items c.deref.result.now told.status
    c.end_with.result (g.O.Sink.told c.args.out.now) (g.O.Sink.told c.end_with.new.out) c.deref.ensures.value c.in-Ok.ensures.output c.end_with.ensures.ends
