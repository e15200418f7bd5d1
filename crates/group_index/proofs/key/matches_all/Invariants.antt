use Rattle.std.proofs.Common.{◌≡◌, nat_eq, drop}
use Rattle.cfd_semantics.specs.Pattern.{all_match}
use Rattle.group_index.proofs.key.matches_all.Given as goal

-- what is left decides
abbrev pub invariant-loop-place : goal.invariant-loop-place
invariant-loop-place l = all_match nat_eq l.cells l.ids ≡ all_match nat_eq (drop l.place l.cells) (drop l.place l.ids)
