use Rattle.std.proofs.Common.{◌≡◌, drop}
use Rattle.text_lists.specs.Firsts.{first_in}
use Rattle.rule_model.specs.Faults.{outside_in_row}
use Rattle.rule_model.proofs.cells.cfd_is_inside.Given as goal

-- what is left gives the answer
abbrev pub invariant-loop-row : goal.invariant-loop-row
invariant-loop-row l = first_in (outside_in_row l.attrs l.cfd) (drop l.row-index l.cfd.rows) ≡ first_in (outside_in_row l.attrs l.cfd) l.cfd.rows
