-- How many leaves a search needs at most.
use Rattle.std.specs.Prelude.{ℕ, ◌+◌, ◌*◌, min, List, [], ◌∷◌, if◌then◌else◌}
use Rattle.case_tree.specs.CaseTree.{var_count}
use Rattle.case_tree.specs.declared.clauses.VarCell.{VarCell}

-- The ways to choose one variable of each demanded cell.
abbrev pub choices : List VarCell → ℕ
choices [] = 1
choices (cell ∷ cells) = if cell.demanded then cell.count * choices cells else choices cells

-- The product of the numbers of variables of the demanded cells, times one more than the number of variables, or
-- 1,000,001 where that is less.
abbrev pub enough_of : List VarCell → ℕ
enough_of cells = min (choices cells * (var_count cells + 1)) 1000001
