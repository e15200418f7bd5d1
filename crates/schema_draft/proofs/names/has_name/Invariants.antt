use Rattle.std.proofs.Common.{◌≡◌, take, false}
use Rattle.schema_core.specs.SchemaFiles.{has_attr}
use Rattle.schema_draft.proofs.names.has_name.Given as goal

abbrev pub invariant-loop-attr : goal.invariant-loop-attr
invariant-loop-attr l = has_attr (take l.attr-index l.attrs) l.name ≡ false
