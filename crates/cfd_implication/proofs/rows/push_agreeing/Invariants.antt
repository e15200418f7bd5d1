use Rattle.std.proofs.Common.{◌≡◌, ◌++◌}
use Rattle.std.specs.List.{flat_map, range_with_len}
use Rattle.cfd_implication.specs.Question.{constant_clauses}
use Rattle.cfd_implication.proofs.rows.push_agreeing.Given as goal

abbrev pub invariant-loop-place : goal.invariant-loop-place
invariant-loop-place l = l.out ≡ l.initial.out ++ flat_map (constant_clauses l.cells l.cell.attr) (range_with_len 0 l.place)
