use Rattle.std.proofs.Common.{◌≡◌, drop}
use Rattle.text_lists.specs.Firsts.{first_in}
use Rattle.rule_model.specs.Faults.{outside_in_inclusion_row}
use Rattle.rule_model.proofs.cells.cind_is_inside.Given as goal

-- what is left gives the answer
abbrev pub invariant-loop-row : goal.invariant-loop-row
invariant-loop-row l = first_in (outside_in_inclusion_row l.lefts l.rights l.cind) (drop l.row-index l.cind.rows) ≡ first_in (outside_in_inclusion_row l.lefts l.rights l.cind) l.cind.rows
