use Rattle.cli_output.specs.Output.{Only}
use Rattle.cli_output.proofs.Outputs.{Ends-wider}
use Rattle.rule_forms.specs.CheckForm.{check_outputs, verdict_status, verdict_text}
use Rattle.rule_forms.proofs.check_form.tell.Goals as goal

pub returns-in-Ok : goal.returns-in-Ok
returns-in-Ok g c =
    let verdict = c.in-Ok.verdict in
    Ends-wider (Only (verdict_text verdict) (verdict_status verdict)) (check_outputs c.args.given.now) (λ bytes status o. (verdict, c.in-Ok.ensures.verdict, c.in-Ok.ensures.right, o.0, o.1))
    c.write_verdict.result (g.O.Sink.told c.args.out.now) (g.O.Sink.told c.write_verdict.new.out) c.write_verdict.ensures
