use Rattle.std.proofs.Common.{◌≡◌, ◌↔◌, refl, subst, sym}
use Rattle.cli_output.specs.declared.status.Status.TheVariants.{Clean}
use Rattle.view_list.specs.Listed.{list_body}
use Rattle.view_forms.specs.ListForm.{AreWantedSatisfied}
use Rattle.view_forms.specs.Statuses.{status_of}
use Rattle.view_forms.proofs.Wanted.{clean_where_satisfied}
use Rattle.view_forms.proofs.list_form.list_told.Goals as goal

pub returns-clause-law : goal.returns-clause-law
returns-clause-law g c =
    let bench = c.args.looked.now.bench in
    let counts = c.args.looked.now.counts in
    let options = c.args.options.now in
    let is : c.status_of-status.result ≡ status_of (list_body bench.rules counts options c.in_ok-found.found) =
    rw (c.status_of-status.ensures.status, c.deref-2.ensures.value, c.in_ok-body.ensures, c.rules-rules.ensures.value, c.as_slice-counts.ensures) refl in
    subst (λ status. status ≡ Clean ↔ AreWantedSatisfied bench.rules bench.history.present options) (sym is)
    (clean_where_satisfied bench.rules counts bench.history.present options c.in_ok-found.found c.in_ok-found.ensures.found c.in_ok-found.ensures.law)
