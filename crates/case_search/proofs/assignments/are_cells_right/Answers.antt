use Rattle.std.proofs.Common.{◌≡◌, ℕ, List, true, false, get_or, subst, arith}
use Rattle.std.specs.List.{All}
use Rattle.std.proofs.lemmas.List.{take_all}
use Rattle.std.proofs.lemmas.List.Elements.{All-more}
use Rattle.case_tree.specs.declared.clauses.VarCell.{VarCell}
use Rattle.case_tree.specs.CaseTree.{IsIn}
use Rattle.case_search.proofs.Around.{cell_ends}
use Rattle.case_search.proofs.assignments.are_cells_right.Goals as goal

pub is_cell_right-requires : goal.is_cell_right-requires
is_cell_right-requires c =
    cell_ends c.args.clauses.now c.cells-cells.result.now c.loop-at.at _ c.cells-cells.ensures.well_formed c.cells-cells.ensures.cells c.loop-at-test.true

pub loop-at-preserved : goal.loop-at-preserved
loop-at-preserved c = record {
  most = All-more (λ (cell : VarCell). (v w : ℕ) → IsIn cell v → IsIn cell w → get_or c.args.values.now v false ≡ true → get_or c.args.values.now w false ≡ true → v ≡ w) c.cells-cells.result.now c.loop-at.at _ c.loop-at-test.true c.loop-at.invariant.most (c.is_cell_right.ensures.most c.if-not-is_cell_right.false);
  least = All-more (λ (cell : VarCell). cell.demanded ≡ true → (v : ℕ) × IsIn cell v × (get_or c.args.values.now v false ≡ true)) c.cells-cells.result.now c.loop-at.at _ c.loop-at-test.true c.loop-at.invariant.least (c.is_cell_right.ensures.least c.if-not-is_cell_right.false);
}

pub returns-clause-most : goal.returns-clause-most
returns-clause-most c =
    let right : VarCell → Type 0 = λ cell. (v w : ℕ) → IsIn cell v → IsIn cell w → get_or c.args.values.now v false ≡ true → get_or c.args.values.now w false ≡ true → v ≡ w in
    λ _. subst (λ (cells : List VarCell). All right cells) c.cells-cells.ensures.cells
    (subst (λ (cells : List VarCell). All right cells) (take_all c.loop-at.at c.cells-cells.result.now (omega arith)) c.loop-at.invariant.most)

pub returns-clause-least : goal.returns-clause-least
returns-clause-least c =
    let right : VarCell → Type 0 = λ cell. cell.demanded ≡ true → (v : ℕ) × IsIn cell v × (get_or c.args.values.now v false ≡ true) in
    λ _. subst (λ (cells : List VarCell). All right cells) c.cells-cells.ensures.cells
    (subst (λ (cells : List VarCell). All right cells) (take_all c.loop-at.at c.cells-cells.result.now (omega arith)) c.loop-at.invariant.least)
