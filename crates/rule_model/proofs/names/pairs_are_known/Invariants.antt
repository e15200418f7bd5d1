use Rattle.std.proofs.Common.{◌≡◌}
use Rattle.text_lists.specs.Firsts.{first_in}
use Rattle.rule_model.specs.Faults.{unknown_in_pair}
use Rattle.std.specs.List.{zip}
use Rattle.rule_model.proofs.names.pairs_are_known.Given as goal

-- what is left gives the answer
abbrev pub invariant-loop-name : goal.invariant-loop-name
invariant-loop-name l = first_in (unknown_in_pair l.attrs l.masters) (zip l.name-iterator.a.rest.now l.name-iterator.b.rest.now) ≡ first_in (unknown_in_pair l.attrs l.masters) (zip l.x l.xm)
