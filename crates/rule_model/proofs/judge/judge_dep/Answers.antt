use Rattle.std.proofs.Common.{sym, subst}
use Rattle.std.proofs.lemmas.Result.{err_from_is_err_and}
use Rattle.rule_model.specs.declared.decl.Decl.TheVariants.{Cfd}
use Rattle.rule_model.specs.declared.dep.Dep.{Dep}
use Rattle.text_lists.specs.Firsts.{first_of}
use Rattle.rule_model.specs.Faults.{schema_tests}
use Rattle.rule_model.specs.Judged.{judged_dep}
use Rattle.rule_model.specs.Rules.{dep_at, IsValidDep}
use Rattle.rule_model.proofs.Firsts.{none_if_passed, refused}
use Rattle.rule_model.proofs.ValidRules.{passes_over_schema, dep_valid}
use Rattle.rule_model.proofs.judge.judge_dep.Goals as goal

pub returns-in_err-check_cfd-clause-exact : goal.returns-in_err-check_cfd-clause-exact
unfolding judged_dep
returns-in_err-check_cfd-clause-exact c =
    let r = c.from_residual-in_err-check_cfd in
    let p = err_from_is_err_and r.result r.ensures.1 in
    let schema = c.args.schema.now in
    rw (p.1, p.2) (refused c.in_err-check_cfd.field-0.0 (first_of (schema_tests schema (Cfd c.args.cfd))) (dep_at schema c.args.cfd 0) c.in_err-check_cfd.ensures)

pub returns-clause-valid : goal.returns-clause-valid
returns-clause-valid c =
    let schema = c.args.schema.now in
    let none = none_if_passed (first_of (schema_tests schema (Cfd c.args.cfd))) c.in_ok-check_cfd.ensures in
    subst (λ (dep : Dep). IsValidDep schema dep) (sym c.in_ok-dep.ensures) (dep_valid schema c.args.cfd 0 c.requires.right (passes_over_schema schema (Cfd c.args.cfd) none) c.requires.rows)
