use Rattle.std.proofs.Common.{◌≡◌, ℕ, take, true, false, get_or}
use Rattle.std.specs.List.{All}
use Rattle.case_tree.specs.declared.clauses.VarCell.{VarCell}
use Rattle.case_tree.specs.CaseTree.{IsIn}
use Rattle.case_search.proofs.assignments.are_cells_right.Given as goal

abbrev pub invariant-loop-at : goal.invariant-loop-at
invariant-loop-at l = record {
  most : All (λ (cell : VarCell). (v w : ℕ) → IsIn cell v → IsIn cell w → get_or l.values v false ≡ true → get_or l.values w false ≡ true → v ≡ w) (take l.at l.cells);
  least : All (λ (cell : VarCell). cell.demanded ≡ true → (v : ℕ) × IsIn cell v × (get_or l.values v false ≡ true)) (take l.at l.cells);
}
