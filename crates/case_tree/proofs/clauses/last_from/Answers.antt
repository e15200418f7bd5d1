use Rattle.std.proofs.Common.{◌<◌, ◌-◌, false, leb, get_or, arith, rules}
use Rattle.std.proofs.lemmas.List.Sorted.{IsPartitionPoint-from_clause, IsPartitionedBy-leb}
use Rattle.case_tree.specs.declared.clauses.VarCell.{VarCell}
use Rattle.case_tree.specs.CaseTree.{IsIn}
use Rattle.case_tree.proofs.Cells.{cells_rise, cell_of_var_is}
use Rattle.case_tree.proofs.Lists.{IsSomeAnd-get_or}
use Rattle.case_tree.proofs.clauses.last_from.Goals as goal
use Rattle.case_tree.proofs.clauses.last_from.Goals.{After-partition_point}

none : VarCell
none = record { first = 0; count = 0; demanded = false }

-- the cell before those that begin after the variable has it
last : (c : After-partition_point) → (0 < c.partition_point.result) × IsIn (get_or c.args.cells.now (c.partition_point.result - 1) none) c.args.var
last c =
    cell_of_var_is c.args.cells.now c.partition_point.result c.args.var none c.requires.cells_follow c.requires.known
    (IsPartitionPoint-from_clause (λ (cell : VarCell). leb cell.first c.args.var) _ _ c.partition_point.ensures.partitioned
    (IsPartitionedBy-leb (λ (cell : VarCell). cell.first) c.args.cells.now c.args.var (cells_rise c.args.cells.now c.requires.cells_follow))
    (λ a r f called. search rules))
    c.partition_point.ensures.bound

pub overflow_sub-result : goal.overflow_sub-result
overflow_sub-result c = omega (arith, (last (goal.at.overflow_sub-result c).After-partition_point).0)

pub returns : goal.returns
returns c =
    let there = last (goal.at.returns c).After-partition_point in
    (IsSomeAnd-get_or (λ (cell : VarCell). IsIn cell c.args.var) c.args.cells.now (c.partition_point.result - 1) none (omega (arith, there.0, c.partition_point.ensures.bound))).1 there.1
