use Rattle.std.proofs.Common.{◌≡◌, ◌+◌, ◌-◌, length, sym, arith}
use Rattle.case_tree.specs.CaseTree.{var_count}
use Rattle.case_tree.proofs.Cells.{end_of_last}
use Rattle.case_tree.proofs.clauses.end_of.Goals as goal
use Rattle.case_tree.proofs.clauses.end_of.Goals.{In-Some}

-- the last cell ends where the variables end
ends : (c : In-Some) → c.in-Some.cell.now.first + c.in-Some.cell.now.count ≡ var_count c.args.cells.now
ends c =
    let nonempty = c.in-Some.ensures.item in
    omega (arith, end_of_last 0 c.args.cells.now (length c.args.cells.now - 1) c.in-Some.cell.now c.requires.cells_follow (sym c.in-Some.ensures.value) (omega (arith, nonempty.3.0)))

pub overflow_add-result : goal.overflow_add-result
overflow_add-result c = omega (arith, ends (goal.at.overflow_add-result c).In-Some)

pub returns-in-Some : goal.returns-in-Some
returns-in-Some c = ends c
