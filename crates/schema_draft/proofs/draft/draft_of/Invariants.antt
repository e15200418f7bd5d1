use Rattle.std.proofs.Common.{◌≡◌, ◌++◌, [], take, drop}
use Rattle.schema_draft.specs.Drafts.{draft_behind}
use Rattle.schema_draft.proofs.draft.draft_of.Given as goal

abbrev pub invariant-loop-place : goal.invariant-loop-place
invariant-loop-place l = l.out.items ++ draft_behind (take l.place l.sheets) (drop l.place l.sheets) ≡ draft_behind [] l.sheets
