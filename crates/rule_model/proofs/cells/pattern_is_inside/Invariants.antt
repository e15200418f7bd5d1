use Rattle.std.proofs.Common.{◌≡◌, drop}
use Rattle.text_lists.specs.Firsts.{first_in}
use Rattle.rule_model.specs.Faults.{outside_in_pattern}
use Rattle.rule_model.proofs.cells.pattern_is_inside.Given as goal

-- what is left gives the answer
abbrev pub invariant-loop-name : goal.invariant-loop-name
invariant-loop-name l = first_in (outside_in_pattern l.attrs) (drop l.name-index l.pattern) ≡ first_in (outside_in_pattern l.attrs) l.pattern
