use Rattle.std.proofs.Common.{◌≡◌, ◌++◌}
use Rattle.std.specs.List.{flat_map}
use Rattle.std.specs.Prelude.{zip}
use Rattle.cell_values.specs.RowClauses.{misses_at, misses_left}
use Rattle.cell_values.proofs.row_clauses.push_misses_left.Given as goal

-- with what is left it comes to the same
abbrev pub invariant-loop-attr : goal.invariant-loop-attr
invariant-loop-attr l = l.clause.items ++ flat_map (misses_at l.cells l.which) (zip l.attr-iterator.a.rest.now l.attr-iterator.b.rest.now) ≡ l.initial.clause.items ++ misses_left l.cells l.which l.rule l.row
