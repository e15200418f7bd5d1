use Rattle.std.proofs.Common.{ap, arith, ◌∙◌, sym, subst}
use Rattle.bench_core.specs.Bench.{BenchModel}
use Rattle.violation_report.specs.Listing.{listing}
use Rattle.bench_core.specs.DirtyCounts.{list_probes}
use Rattle.violation_report.specs.Report.{report_text}
use Rattle.cli_output.specs.Output.{IsWhole, Only}
use Rattle.cli_output.proofs.Outputs.{Ends-wider}
use Rattle.project_forms.specs.ReportForm.{report_of}
use Rattle.project_forms.proofs.Reports.{found_is_whole}
use Rattle.project_forms.proofs.report_form.tell.Goals as goal

pub end_with-requires : goal.end_with-requires
end_with-requires g c =
    let bench = c.args.bench.now in
    subst IsWhole (sym c.status_of.ensures) (found_is_whole (listing bench.rules bench.history.present))

pub returns-in-Ok-clause-ends : goal.returns-in-Ok-clause-ends
returns-in-Ok-clause-ends g c =
    let bench = c.args.bench.now in
    let text = c.in-Ok.ensures.report ∙ ap (λ (b : BenchModel). report_text b.rules (listing b.rules b.history.present)) c.queries.ensures in
    Ends-wider (Only c.deref.result.now c.status_of.result) (report_of bench.rules bench.history.present)
    (λ bytes status only. (only.0 ∙ c.deref.ensures.value ∙ text, only.1 ∙ c.status_of.ensures)) c.end_with.result (g.O.Sink.told c.args.out.now) (g.O.Sink.told c.end_with.new.out) c.end_with.ensures.ends

pub returns-in-Ok-clause-probes : goal.returns-in-Ok-clause-probes
returns-in-Ok-clause-probes g c = omega (arith, c.json_report.ensures.probes, ap (λ (b : BenchModel). list_probes b.rules b.history.present) c.queries.ensures)

pub returns-in-Err-clause-probes : goal.returns-in-Err-clause-probes
returns-in-Err-clause-probes g c = omega (arith, c.json_report.ensures.probes, ap (λ (b : BenchModel). list_probes b.rules b.history.present) c.queries.ensures)
