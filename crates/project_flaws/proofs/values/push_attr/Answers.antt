use Rattle.std.proofs.Common.{◌≡◌, ap, sym, subst, ◌∙◌, All}
use Rattle.rule_model.specs.Rules.{IsValidDep}
use Rattle.project_flaws.specs.ValueVerdicts.{bar, values_in}
use Rattle.project_flaws.proofs.values.push_attr.Goals as goal

pub push_values-requires : goal.push_values-requires
push_values-requires c =
    let same : values_in c.args.attr.now.domain ≡ c.as_slice.result.now = ap values_in c.in-Finite.is ∙ sym c.as_slice.ensures in
    subst (λ values. All (λ value. IsValidDep c.args.rules.now.schema (bar c.args.table c.args.place value)) values) same c.requires
