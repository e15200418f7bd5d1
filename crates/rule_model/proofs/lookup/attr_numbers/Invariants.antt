use Rattle.std.proofs.Common.{◌≡◌, take}
use Rattle.schema_core.specs.Lookups.{attr_numbers}
use Rattle.rule_model.proofs.lookup.attr_numbers.Given as goal

-- the names so far have these numbers
abbrev pub invariant-loop-name : goal.invariant-loop-name
invariant-loop-name l = l.numbers ≡ attr_numbers l.attrs (take l.name-index l.names)
