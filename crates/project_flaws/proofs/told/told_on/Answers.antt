use Rattle.std.proofs.Common.{List, subst, ◌∙◌}
use Rattle.std.specs.Prelude.{IfOk}
use Rattle.rule_model.specs.Books.{Book}
use Rattle.project_flaws.specs.Told.{IsTold}
use Rattle.project_flaws.specs.declared.rows.TableRows.{TableRows}
use Rattle.project_flaws.specs.declared.told.Told.{Told}
use Rattle.project_flaws.proofs.told.told_on.Goals as goal

pub returns-clause-told : goal.returns-clause-told
returns-clause-told c =
    let rules = c.args.bench.now.rules in
    subst (λ (tables : List TableRows). IfOk c.told_of.result (λ (told : Told). IsTold c.args.counts rules tables told.text.items told.status)) (c.as_slice.ensures ∙ c.in_ok-all.ensures)
    (subst (λ (book : Book). IfOk c.told_of.result (λ (told : Told). IsTold c.args.counts book c.as_slice.result.now told.text.items told.status)) c.rules.ensures.value c.told_of.ensures.told)
