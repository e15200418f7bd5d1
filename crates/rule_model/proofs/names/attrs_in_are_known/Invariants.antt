use Rattle.std.proofs.Common.{◌≡◌, drop}
use Rattle.text_lists.specs.Firsts.{first_in}
use Rattle.rule_model.specs.Faults.{unknown_name}
use Rattle.rule_model.proofs.names.attrs_in_are_known.Given as goal

-- what is left gives the answer
abbrev pub invariant-loop-name : goal.invariant-loop-name
invariant-loop-name l = first_in (unknown_name l.attrs) (drop l.name-index l.names) ≡ first_in (unknown_name l.attrs) l.names
