use Rattle.std.proofs.Common.{ℕ, List, subst}
use Rattle.rule_model.specs.Books.{Book}
use Rattle.page_text.specs.declared.page.Options.{Options}
use Rattle.view_project.specs.Looking.{counts_of}
use Rattle.view_page.specs.PageForm.{IsPageOf, options_of}
use Rattle.view_page.proofs.form.page.Goals as goal

pub returns-clause-shown : goal.returns-clause-shown
returns-clause-shown g c =
    let start = c.args.project.bench in
    let name = c.args.options.now.project in
    let options = options_of c.args.options.now in
    let looked = c.in_ok-looked.looked in
    let state = looked.bench.history.present in
    let shown = c.in_ok-shown.shown in
    let text = shown.text.items in
    let limited = subst (λ (o : Options). IsPageOf name o looked.counts looked.bench.rules state c.as_slice.result.now text shown.status) c.options_of.ensures c.in_ok-shown.ensures.page in
    let counted = subst (λ (counts : List ℕ). IsPageOf name options counts looked.bench.rules state c.as_slice.result.now text shown.status) c.in_ok-looked.ensures.counts limited in
    let ruled = subst (λ (rules : Book). IsPageOf name options (counts_of start.history.present) rules state c.as_slice.result.now text shown.status) c.in_ok-looked.ensures.made_with.0 counted in
    let page = subst (λ (found : List (List ℕ)). IsPageOf name options (counts_of start.history.present) start.rules state found text shown.status) c.as_slice.ensures ruled in
    (looked.bench.history, c.in_ok-looked.ensures.state, c.in_ok-checked.checked, c.in_ok-checked.ensures, page)
