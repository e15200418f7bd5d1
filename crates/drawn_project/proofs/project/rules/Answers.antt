use Rattle.std.proofs.Common.{Ok, ap, sym, ◌∙◌}
use Rattle.text_lists.specs.declared.limits.Limits.{Limits}
use Rattle.schema_core.specs.declared.schema.Schema.{Schema}
use Rattle.rule_parser.specs.RuleFiles.{reads}
use Rattle.drawn_project.specs.Project.{rules_text}
use Rattle.drawn_project.proofs.SameSchema.{same_schema}
use Rattle.drawn_project.proofs.project.rules.Goals as goal

pub returns-in-Ok : goal.returns-in-Ok
unfolding rules_text
returns-in-Ok c =
    let book = c.in-Ok.rules in
    let read = ap (λ (limits : Limits). reads c.in_ok-schema.schema limits rules_text) (sym c.standard.ensures.value) ∙ c.in-Ok.ensures in
    let same = same_schema c.in_ok-schema.schema _ rules_text book read in
    record {
      schema = c.in_ok-schema.ensures.spelled ∙ ap Ok (sym same);
      rules = ap (λ (schema : Schema). reads schema _ rules_text) same ∙ read;
    }
