use Rattle.std.proofs.Common.{◌≡◌, ◌++◌}
use Rattle.std.specs.Prelude.{not}
use Rattle.schema_draft.specs.Drafts.{columns_text, has_sheet, head_text}
use Rattle.schema_draft.proofs.draft.push_sheet.Given as goal

abbrev pub invariant-loop-place : goal.invariant-loop-place
invariant-loop-place l = l.out.items ≡ l.fn.out.items ++ (head_text (not (has_sheet l.before l.sheet.table.name)) l.sheet.table ++ columns_text l.sheet l.place)
