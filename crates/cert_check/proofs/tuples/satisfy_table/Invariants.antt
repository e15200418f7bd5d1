use Rattle.std.proofs.Common.{◌≡◌, ℕ, ◌<◌, get_or}
use Rattle.cfd_semantics.specs.Tuple.{tuples_of}
use Rattle.rule_model.specs.Satisfied.{SatisfyDep}
use Rattle.rule_model.specs.declared.dep.Dep.{Dep}
use Rattle.cert_check.proofs.tuples.satisfy_table.Given as goal

-- those so far are satisfied
abbrev pub invariant-loop-dep : goal.invariant-loop-dep
invariant-loop-dep l = (k : ℕ) (d : Dep) → k < l.dep-index → (get_or l.deps k d).table ≡ l.table → SatisfyDep (get_or l.deps k d) (tuples_of l.rows)
