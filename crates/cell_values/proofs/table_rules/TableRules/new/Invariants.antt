use Rattle.std.proofs.Common.{◌≡◌, ◌++◌, take}
use Rattle.std.specs.Prelude.{map}
use Rattle.cell_values.specs.TableRules.{table_rules, rule_of}
use Rattle.cell_values.proofs.table_rules.TableRules.new.Given as goal

abbrev pub invariant-loop-dep : goal.invariant-loop-dep
invariant-loop-dep l = map (λ rule. rule.now) l.rules.items ≡ table_rules l.table (take l.dep-index l.deps)

abbrev pub invariant-loop-dep-2 : goal.invariant-loop-dep-2
invariant-loop-dep-2 l = map (λ rule. rule.now) l.rules.items ≡ map (λ rule. rule.now) l.initial.rules.items ++ map rule_of (take l.dep-index l.asked)
