use Rattle.std.proofs.Common.{◌≡◌, ◌++◌, take}
use Rattle.std.specs.List.{flat_map}
use Rattle.cfd_implication.specs.Question.{row_clauses}
use Rattle.cfd_implication.proofs.rows.push_rule.Given as goal

abbrev pub invariant-loop-row : goal.invariant-loop-row
invariant-loop-row l = l.out ≡ l.initial.out ++ flat_map (row_clauses l.cells l.rule) (take l.row-index l.row-items)
