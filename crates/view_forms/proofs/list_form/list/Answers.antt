use Rattle.std.proofs.Common.{ℕ, List, subst}
use Rattle.rule_model.specs.Books.{Book}
use Rattle.view_forms.specs.ListForm.{list_of}
use Rattle.view_forms.proofs.list_form.list.Goals as goal

pub returns-clause-shown : goal.returns-clause-shown
returns-clause-shown g c =
    let start = c.args.project.bench in
    let options = c.args.options.now in
    let looked = c.in_ok-looked.looked in
    let shown = c.in_ok-shown.shown in
    let state = looked.bench.history.present in
    let told = subst (λ (rules : Book). list_of rules looked.counts state options shown.text.items shown.status) c.in_ok-looked.ensures.made_with.0 c.in_ok-shown.ensures.told in
    let counted = subst (λ (counts : List ℕ). list_of start.rules counts state options shown.text.items shown.status) c.in_ok-looked.ensures.counts told in
    (looked.bench.history, c.in_ok-looked.ensures.state, counted)
