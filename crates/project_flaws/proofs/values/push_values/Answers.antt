use Rattle.std.proofs.Common.{All, ap, map, sym, subst, ◌∙◌}
use Rattle.std.proofs.lemmas.List.Elements.{All-push}
use Rattle.rule_model.specs.Rules.{IsValidDep}
use Rattle.project_flaws.specs.ValueVerdicts.{IsValueVerdict, bar, value_of}
use Rattle.project_flaws.proofs.Barred.{values-more}
use Rattle.project_flaws.proofs.values.push_values.Goals as goal

pub value_verdict-requires : goal.value_verdict-requires
value_verdict-requires c =
    subst (λ value. IsValidDep c.args.rules.now.schema (bar c.args.table c.args.attr value)) (sym c.value-item.is) (c.requires c.loop-value.value-index c.value-item.result c.loop-value-test.true)

pub loop-value-preserved : goal.loop-value-preserved
loop-value-preserved c = record {
  values = ap (map value_of) c.in_ok-push.ensures.ok
      ∙ values-more c.loop-value.verdicts c.args.verdicts.now c.args.attr c.args.values.now c.loop-value.value-index c.value-item.result c.in_ok-value_verdict.field-0 c.loop-value-test.true (sym c.value-item.is) c.loop-value.invariant.values c.in_ok-value_verdict.ensures.value;
  each = λ old. subst (All (IsValueVerdict c.args.rules.now c.args.table)) (sym c.in_ok-push.ensures.ok)
      (All-push (IsValueVerdict c.args.rules.now c.args.table) c.loop-value.verdicts c.in_ok-value_verdict.field-0 (c.loop-value.invariant.each old) c.in_ok-value_verdict.ensures.right);
}
