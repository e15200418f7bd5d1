use Rattle.std.proofs.Common.{◌≡◌, take}
use Rattle.rule_model.specs.Rules.{numbered_pattern}
use Rattle.rule_model.proofs.numbering.pattern.Given as goal

-- the cells so far
abbrev pub invariant-loop-name : goal.invariant-loop-name
invariant-loop-name l = l.made ≡ numbered_pattern l.attrs (take l.name-index l.when)
