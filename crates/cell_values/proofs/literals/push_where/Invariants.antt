use Rattle.std.proofs.Common.{◌≡◌, ◌++◌, true, take}
use Rattle.cell_values.specs.Literals.{literals_where, matches_as}
use Rattle.cell_values.proofs.literals.push_where.Given as goal

abbrev pub invariant-loop-place : goal.invariant-loop-place
invariant-loop-place l = l.clause.items ≡ l.initial.clause.items ++ literals_where (matches_as l.matching l.cell) true l.first (take l.place l.values)
