use Rattle.std.proofs.Common.{ap, ◌∙◌}
use Rattle.schema_core.specs.Lookups.{attrs_at}
use Rattle.schema_core.specs.declared.schema.Schema.{Schema}
use Rattle.project_flaws.proofs.Barred.{may_ask}
use Rattle.project_flaws.proofs.values.verdicts_at.Goals as goal

pub push_attr-requires : goal.push_attr-requires
push_attr-requires c =
    may_ask c.args.rules.now c.args.table c.loop-place.place c.attrs_at-attrs.result.now c.index-attrs-place.result c.schema.ensures.valid c.requires
    (c.attrs_at-attrs.ensures ∙ ap (λ (s : Schema). attrs_at s c.args.table) c.schema.ensures.schema) c.loop-place-test.true c.index-attrs-place.is
