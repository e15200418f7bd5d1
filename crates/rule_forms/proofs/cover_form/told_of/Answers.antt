use Rattle.std.proofs.Common.{ap, ◌∙◌}
use Rattle.schema_core.specs.Lookups.{table_number}
use Rattle.schema_core.specs.Schemas.{table_place}
use Rattle.rule_model.specs.Books.{book_deps}
use Rattle.rule_cover.specs.Cover.{IsCover}
use Rattle.rule_forms.specs.CoverForm.{cover_status}
use Rattle.rule_forms.proofs.CoverTables.{of_known}
use Rattle.rule_forms.proofs.cover_form.told_of.Goals as goal

pub cover_text-requires : goal.cover_text-requires
cover_text-requires c =
    let rules = c.args.rules.now in
    let name = c.args.table.now in
    let found = rw c.as_str.ensures.bytes at c.in-Ok.ensures.cover in
    let is = of_known (λ table. IsCover rules.schema (book_deps rules) table c.args.budget c.in-Ok.found.fates) (table_place rules.schema name) c.requires.known found in
    (table_number rules.schema name, c.args.budget, is.right)

pub returns-in_ok-text-in-Ok-clause-output : goal.returns-in_ok-text-in-Ok-clause-output
returns-in_ok-text-in-Ok-clause-output c =
    let rules = c.args.rules.now in
    let name = c.args.table.now in
    let number = table_number rules.schema name in
    let found = rw c.as_str.ensures.bytes at c.in-Ok.ensures.cover in
    let is = of_known (λ table. IsCover rules.schema (book_deps rules) table c.args.budget c.in-Ok.found.fates) (table_place rules.schema name) c.requires.known found in
    (c.in-Ok.found.fates, is, c.in_ok-text-in-Ok.ensures number is.right.numbers, c.status_of-status.ensures.status ∙ ap cover_status c.as_slice.ensures)
