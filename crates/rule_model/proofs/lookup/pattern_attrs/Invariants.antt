use Rattle.std.proofs.Common.{◌≡◌, take}
use Rattle.rule_model.specs.Rules.{pattern_attrs}
use Rattle.rule_model.proofs.lookup.pattern_attrs.Given as goal

-- the names so far
abbrev pub invariant-loop-name : goal.invariant-loop-name
invariant-loop-name l = l.names ≡ pattern_attrs (take l.name-index l.pattern)
