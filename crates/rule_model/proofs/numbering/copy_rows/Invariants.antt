use Rattle.std.proofs.Common.{◌≡◌, take}
use Rattle.rule_model.proofs.numbering.copy_rows.Given as goal

-- the rows so far
abbrev pub invariant-loop-row : goal.invariant-loop-row
invariant-loop-row l = l.copy ≡ take l.row-index l.rows
