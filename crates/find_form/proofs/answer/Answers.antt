use Rattle.std.proofs.Common.{sym, subst}
use Rattle.find_form.specs.FindForm.{IsFoundText}
use Rattle.find_form.proofs.Told.{told_stop, told_text}
use Rattle.find_form.proofs.answer.Goals as goal

pub returns-in-Ok : goal.returns-in-Ok
returns-in-Ok g c =
    let asked = c.args.asked.now in
    told_text c.args.name.now c.args.width c.args.support asked c.deref.result.now (subst (IsFoundText asked c.args.width c.args.support) (sym c.deref.ensures.value) c.in-Ok.ensures.text)
    c.end_with.result (g.O.Sink.told c.args.out.now) (g.O.Sink.told c.end_with.new.out) c.end_with.ensures.ends

pub returns-in-Err : goal.returns-in-Err
returns-in-Err g c =
    told_stop c.args.name.now c.args.width c.args.support c.args.asked.now c.in-Err.stop c.in-Err.ensures.text c.in-Err.ensures.no_fault
    c.end_by.result (g.O.Sink.told c.args.out.now) (g.O.Sink.told c.end_by.new.out) c.end_by.ensures
