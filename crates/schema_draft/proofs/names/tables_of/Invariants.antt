use Rattle.std.proofs.Common.{◌≡◌, ◌+◌, ◌++◌, drop}
use Rattle.schema_draft.specs.Drafts.{tables_from}
use Rattle.schema_draft.proofs.names.tables_of.Given as goal

abbrev pub invariant-loop-place : goal.invariant-loop-place
invariant-loop-place l = l.tables ++ tables_from (l.place + 1) (drop l.place l.files) ≡ tables_from 1 l.files
