-- A dependency by itself has the one row of its declaration.
use Rattle.std.proofs.Common.{◌≡◌, length, Option, Some, None, sym, ap, ◌∙◌}
use Rattle.std.specs.Prelude.{Ok}
use Rattle.std.proofs.lemmas.List.{length-map}
use Rattle.text_lists.specs.Firsts.{first_of}
use Rattle.schema_core.specs.declared.schema.Schema.{Schema}
use Rattle.rule_model.specs.declared.decl.CfdDecl.{CfdDecl}
use Rattle.rule_model.specs.declared.decl.Decl.TheVariants.{Cfd}
use Rattle.rule_model.specs.declared.dep.Dep.{Dep}
use Rattle.rule_model.specs.declared.fault.RuleFault.{RuleFault}
use Rattle.rule_model.specs.Faults.{schema_tests}
use Rattle.rule_model.specs.Judged.{unless_fault, judged_dep}
use Rattle.rule_model.specs.Rules.{dep_at, row_at}
use Rattle.rule_parser.specs.ReadRules.{IsDepDecl}

same_dep : (found : Option RuleFault) (made dep : Dep) → unless_fault found made ≡ Ok dep → made ≡ dep
same_dep None made dep e = cc
same_dep (Some fault) made dep e = absurd cc

pub one_row : (schema : Schema) (cfd : CfdDecl) (dep : Dep) → IsDepDecl cfd → judged_dep schema cfd ≡ Ok dep → length dep.rule.rows ≡ 1
unfolding judged_dep
one_row schema cfd dep read e =
    let same = same_dep (first_of (schema_tests schema (Cfd cfd))) (dep_at schema cfd 0) dep e in
    ap (λ (d : Dep). length d.rule.rows) (sym same) ∙ length-map cfd.rows (row_at 0) ∙ read.one
