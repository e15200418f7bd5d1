use Rattle.std.proofs.Common.{◌≡◌, take, false}
use Rattle.std.specs.List.{list_any}
use Rattle.project_flaws.specs.Cited.{clause_row, is_row}
use Rattle.project_flaws.proofs.cited.is_cited.Given as goal

abbrev pub invariant-loop-node : goal.invariant-loop-node
invariant-loop-node l = list_any (λ node. is_row l.row (clause_row l.clauses node)) (take l.node-index l.nodes) ≡ false
