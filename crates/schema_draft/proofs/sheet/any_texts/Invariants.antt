use Rattle.std.proofs.Common.{◌≡◌, take}
use Rattle.schema_draft.specs.Sheets.{any_texts}
use Rattle.schema_draft.proofs.sheet.any_texts.Given as goal

abbrev pub invariant-loop-name : goal.invariant-loop-name
invariant-loop-name l = l.attrs ≡ any_texts (take l.name-index l.names)
