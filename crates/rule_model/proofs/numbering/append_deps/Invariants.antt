use Rattle.std.proofs.Common.{◌≡◌, map, ◌++◌}
use Rattle.std.specs.List.{range_with_len}
use Rattle.rule_model.specs.Rules.{dep_at}
use Rattle.rule_model.proofs.numbering.append_deps.Given as goal

-- the dependencies so far
abbrev pub invariant-loop-place : goal.invariant-loop-place
invariant-loop-place l = l.deps ≡ l.initial.deps ++ map (dep_at l.schema l.cfd) (range_with_len 0 l.place)
