use Rattle.std.proofs.Common.{◌≡◌, take}
use Rattle.std.specs.Prelude.{map}
use Rattle.cert_check.specs.Made.{decl_row}
use Rattle.cert_check.proofs.made.decl_rows.Given as goal

abbrev pub invariant-loop-row : goal.invariant-loop-row
invariant-loop-row l = l.made ≡ map decl_row (take l.row-index l.rows)
