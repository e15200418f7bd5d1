use Rattle.std.proofs.Common.{◌≡◌, All, take}
use Rattle.rule_model.specs.declared.dep.Dep.{Dep}
use Rattle.dep_finder.specs.Deps.{deps_from}
use Rattle.dep_finder.specs.Valid.{HasTexts}
use Rattle.dep_finder.proofs.deps.deps_of.Given as goal

abbrev pub invariant-loop-place : goal.invariant-loop-place
invariant-loop-place l = record {
  named : l.deps ≡ deps_from l.number l.rows l.sides 0 (take l.place l.found);
  texts : All (λ (dep : Dep). HasTexts dep.rule) l.deps;
}
