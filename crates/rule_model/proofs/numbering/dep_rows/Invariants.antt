use Rattle.std.proofs.Common.{◌≡◌, take, map}
use Rattle.rule_model.specs.Rules.{row_at}
use Rattle.rule_model.proofs.numbering.dep_rows.Given as goal

-- the rows so far
abbrev pub invariant-loop-row : goal.invariant-loop-row
invariant-loop-row l = l.made ≡ map (row_at l.place) (take l.row-index l.rows)
