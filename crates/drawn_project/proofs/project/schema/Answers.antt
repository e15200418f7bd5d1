use Rattle.std.proofs.Common.{ap, sym, ◌∙◌}
use Rattle.schema_core.specs.SchemaFiles.{reads}
use Rattle.text_lists.specs.declared.limits.Limits.{Limits}
use Rattle.drawn_project.specs.Project.{schema_text}
use Rattle.drawn_project.proofs.project.schema.Goals as goal

pub returns-in-Ok-clause-spelled : goal.returns-in-Ok-clause-spelled
unfolding schema_text
returns-in-Ok-clause-spelled c = ap (λ (limits : Limits). reads limits schema_text) (sym c.standard.ensures.value) ∙ c.in-Ok.ensures.exact
