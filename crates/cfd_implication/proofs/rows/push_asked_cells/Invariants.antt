use Rattle.std.proofs.Common.{◌≡◌, ◌++◌}
use Rattle.std.specs.List.{flat_map}
use Rattle.std.specs.Prelude.{zip}
use Rattle.cfd_implication.specs.Question.{asked_cell}
use Rattle.cfd_implication.proofs.rows.push_asked_cells.Given as goal

-- with what is left it comes to the same
abbrev pub invariant-loop-attr : goal.invariant-loop-attr
invariant-loop-attr l = l.out ++ flat_map (asked_cell l.cells) (zip l.attr-iterator.a.rest.now l.attr-iterator.b.rest.now) ≡ l.initial.out ++ flat_map (asked_cell l.cells) (zip l.asked.x l.row.x)
