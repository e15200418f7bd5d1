use Rattle.std.proofs.Common.{◌≡◌, ◌++◌, take}
use Rattle.std.specs.List.{flat_map}
use Rattle.cfd_implication.specs.Question.{rule_clauses}
use Rattle.cfd_implication.proofs.rows.push_rules.Given as goal

abbrev pub invariant-loop-place : goal.invariant-loop-place
invariant-loop-place l = l.out ≡ l.initial.out ++ flat_map (rule_clauses l.cells) (take l.place l.rules)
