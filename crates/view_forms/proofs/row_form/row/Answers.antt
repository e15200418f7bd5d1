use Rattle.std.proofs.Common.{ℕ, List, ◌∙◌, subst}
use Rattle.text_lists.specs.declared.limits.Limits.{Limits}
use Rattle.rule_model.specs.Books.{Book}
use Rattle.view_project.specs.Looking.{counts_of}
use Rattle.view_forms.specs.RowForm.{row_of}
use Rattle.view_forms.proofs.row_form.row.Goals as goal

pub returns-clause-shown : goal.returns-clause-shown
returns-clause-shown g c =
    let start = c.args.project.bench in
    let options = c.args.options.now in
    let looked = c.in_ok-looked.looked in
    let last = looked.bench.history in
    let shown = c.in_ok-shown.shown in
    let counted = subst (λ (counts : List ℕ). row_of looked.bench.rules looked.bench.limits counts last options shown.text.items shown.status) (c.as_slice.ensures ∙ c.in_ok-looked.ensures.counts) c.in_ok-shown.ensures.told in
    let limited = subst (λ (limits : Limits). row_of looked.bench.rules limits (counts_of start.history.present) last options shown.text.items shown.status) c.in_ok-looked.ensures.made_with.1 counted in
    let told = subst (λ (rules : Book). row_of rules start.limits (counts_of start.history.present) last options shown.text.items shown.status) c.in_ok-looked.ensures.made_with.0 limited in
    (last, c.in_ok-looked.ensures.state, told)
