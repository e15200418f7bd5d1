use Rattle.std.proofs.Common.{◌≡◌, ◌++◌, take}
use Rattle.std.specs.Prelude.{filter, map}
use Rattle.cell_values.specs.RowClauses.{alone}
use Rattle.cell_values.specs.declared.which.Which.TheVariants.{Only}
use Rattle.cfd_consistency.specs.Question.{asks}
use Rattle.cfd_consistency.proofs.clauses.push_rule.Given as goal

-- those of the rows so far
abbrev pub invariant-loop-row : goal.invariant-loop-row
invariant-loop-row l = l.clauses ≡ l.initial.clauses ++ map (alone l.values Only l.rule) (filter (λ row. asks row.a) (take l.row-index l.rule.rows))
