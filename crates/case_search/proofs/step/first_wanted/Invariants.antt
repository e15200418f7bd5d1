use Rattle.std.proofs.Common.{◌≡◌, take, true}
use Rattle.std.specs.List.{All}
use Rattle.case_tree.specs.declared.clauses.VarCell.{VarCell}
use Rattle.case_search.specs.Step.{HasTrue}
use Rattle.case_search.proofs.step.first_wanted.Given as goal

abbrev pub invariant-loop-at : goal.invariant-loop-at
invariant-loop-at l = All (λ (cell : VarCell). cell.demanded ≡ true → HasTrue l.trail.path cell) (take l.at l.cells)
