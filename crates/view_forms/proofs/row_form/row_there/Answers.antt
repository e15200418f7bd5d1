use Rattle.std.proofs.Common.{◌≡◌, ◌↔◌, [], refl, subst, sym}
use Rattle.violation_report.specs.Explained.{explained}
use Rattle.cli_output.specs.declared.status.Status.TheVariants.{Clean}
use Rattle.view_list.specs.Rows.{row_body}
use Rattle.view_forms.specs.Statuses.{status_of}
use Rattle.view_forms.proofs.Standing.{clean_where_none_explained}
use Rattle.view_forms.proofs.row_form.row_there.Goals as goal

pub returns-clause-law : goal.returns-clause-law
returns-clause-law g c =
    let bench = c.args.bench.now in
    let counts = c.args.counts.now in
    let table = c.args.table in
    let row = c.args.options.now.row in
    let found = c.in_ok-found in
    let told = status_of (row_body bench.rules counts table row found.found) in
    let is : c.status_of-status.result ≡ told = rw (c.status_of-status.ensures.status, c.deref-2.ensures.value, c.in_ok-body.ensures, c.rules.ensures.value) (refl {a = told}) in
    subst (λ status. status ≡ Clean ↔ explained bench.rules bench.history.present table row ≡ []) (sym is)
    (clean_where_none_explained bench.rules counts bench.history.present table row found.found found.ensures.found found.ensures.law)
