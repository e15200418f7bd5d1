use Rattle.std.proofs.Common.{◌≡◌, drop}
use Rattle.bench_core.specs.Edited.{outside_domain}
use Rattle.bench_core.proofs.checks.outside_domain.Given as goal

-- the attributes so far have their texts, so what is found is found in the rest
abbrev pub invariant-loop-place : goal.invariant-loop-place
invariant-loop-place l = outside_domain (drop l.place l.attrs) (drop l.place l.texts) ≡ outside_domain l.attrs l.texts
