use Rattle.std.proofs.Common.{◌≡◌, true, false, leb, arith, rules}
use Rattle.std.specs.List.Sorted.{IsPartitionPoint}
use Rattle.std.proofs.lemmas.List.Sorted.{IsPartitionPoint-from_clause, IsPartitionedBy-leb}
use Rattle.std.proofs.lemmas.Bool.{false≢true}
use Rattle.case_tree.specs.declared.clauses.VarCell.{VarCell}
use Rattle.case_tree.proofs.Cells.{cells_rise, shared_by_none, shared_by_last}
use Rattle.case_tree.proofs.reasons.share_cell.Goals as goal
use Rattle.case_tree.proofs.reasons.share_cell.Goals.{After-partition_point-after}

-- where the cells that begin after the variable start
point : (c : After-partition_point-after) → IsPartitionPoint (λ (cell : VarCell). leb cell.first c.args.one ≡ true) (λ (cell : VarCell). leb cell.first c.args.one ≡ false) c.args.cells.now c.partition_point-after.result
point c =
    IsPartitionPoint-from_clause (λ (cell : VarCell). leb cell.first c.args.one) _ _ c.partition_point-after.ensures.partitioned
    (IsPartitionedBy-leb (λ (cell : VarCell). cell.first) c.args.cells.now c.args.one (cells_rise c.args.cells.now c.requires))
    (λ a r f called. search rules)

pub returns-then-after-eq0 : goal.returns-then-after-eq0
returns-then-after-eq0 c =
    let at = point (goal.at.returns-then-after-eq0 c).After-partition_point-after in
    (λ yes. absurd (false≢true yes), λ shared. absurd (shared_by_none _ _ _ _ c.requires at c.partition_point-after.ensures.bound c.if-after-eq0.true shared))

pub returns : goal.returns
returns c =
    let at = point (goal.at.returns c).After-partition_point-after in
    let last = shared_by_last _ _ _ _ c.requires at c.partition_point-after.ensures.bound (omega arith) _ in
    let told = c.contains_both.ensures in
    (λ yes. last.0 (told.0 yes), λ shared. told.1 (last.1 shared))
