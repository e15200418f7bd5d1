use Rattle.std.proofs.Common.{◌≡◌}
use Rattle.text_lists.specs.Firsts.{first_in}
use Rattle.rule_model.specs.Faults.{outside_in_cell}
use Rattle.std.specs.List.{zip}
use Rattle.rule_model.proofs.cells.cells_are_inside.Given as goal

-- what is left gives the answer
abbrev pub invariant-loop-name : goal.invariant-loop-name
invariant-loop-name l = first_in (outside_in_cell l.attrs) (zip l.name-iterator.a.rest.now l.name-iterator.b.rest.now) ≡ first_in (outside_in_cell l.attrs) (zip l.names l.cells)
