use Rattle.std.proofs.Common.{◌+◌, ◌*◌, ◌≤◌, ap, arith, subst}
use Rattle.rule_model.specs.Books.{Book}
use Rattle.bench_core.specs.DirtyCounts.{list_probes}
use Rattle.session.specs.Probes.{Counted}
use Rattle.project_forms.specs.ReportForm.{counted_from, report_of, report_outputs}
use Rattle.project_files.specs.Project.{read_of}
use Rattle.cli_output.specs.Output.{Ends, Writes}
use Rattle.cli_output.proofs.Outputs.{Ends-wider, Writes-wider}
use Rattle.project_forms.proofs.Reports.{clean_where_satisfied}
use Rattle.project_forms.proofs.report_form.report.Goals as goal

pub returns-in-Ok-clause-ends : goal.returns-in-Ok-clause-ends
returns-in-Ok-clause-ends g c =
    let start = c.args.project.bench in
    let last = c.perform.new.bench in
    let told = subst (λ (rules : Book). Ends (report_of rules last.history.present) c.tell-status.result (g.O.Sink.told c.args.out.now) (g.O.Sink.told c.tell-status.new.out)) c.perform.ensures.made_with.0 c.tell-status.ensures.ends in
    Ends-wider (report_of start.rules last.history.present) (report_outputs (read_of c.args.project)) (λ bytes status is. (last.history, c.in-Ok.ensures.leads, is, clean_where_satisfied start.rules last.history.present status is.1)) c.tell-status.result (g.O.Sink.told c.args.out.now) (g.O.Sink.told c.tell-status.new.out) told

pub returns-in-Ok-clause-probes : goal.returns-in-Ok-clause-probes
returns-in-Ok-clause-probes g c = λ whole.
    let start = c.args.project.bench in
    let last = c.perform.new.bench in
    let counted : Counted = (last.history, c.perform.new.steps) in
    let before = (g.O.Sink.told c.args.out.now).written in
    let after = (g.O.Sink.told c.tell-status.new.out).written in
    let told = subst (λ (rules : Book). Writes (report_of rules last.history.present) c.tell-status.result before after) c.perform.ensures.made_with.0 c.tell-status.ensures.ends.writes in
    let few : c.tell-status.new.steps ≤ c.perform.new.steps + 2 * list_probes start.rules last.history.present =
    omega (arith, c.tell-status.ensures.probes, ap (λ (rules : Book). list_probes rules last.history.present) c.perform.ensures.made_with.0) in
    Writes-wider (report_of start.rules last.history.present) (counted_from c.args.steps.now c.tell-status.new.steps (read_of c.args.project)) (λ bytes status is. (counted, c.in-Ok.ensures.probes, few, is)) c.tell-status.result before after told
