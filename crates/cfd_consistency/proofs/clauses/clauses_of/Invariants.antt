use Rattle.std.proofs.Common.{◌≡◌, take}
use Rattle.std.specs.List.{flat_map}
use Rattle.cfd_consistency.specs.Question.{rule_clauses}
use Rattle.cfd_consistency.proofs.clauses.clauses_of.Given as goal

-- those of the rules so far
abbrev pub invariant-loop-place : goal.invariant-loop-place
invariant-loop-place l = l.clauses ≡ flat_map (rule_clauses l.values) (take l.place l.rules)
