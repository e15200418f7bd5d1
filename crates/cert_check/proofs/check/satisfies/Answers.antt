use Rattle.std.proofs.Common.{◌↔◌, ℕ, List, [], ◌∷◌, ◌∙◌, ap, subst}
use Rattle.std.specs.Prelude.{IsTrue}
use Rattle.cfd_semantics.specs.Tuple.{tuples_of}
use Rattle.rule_model.specs.declared.dep.Dep.{Dep}
use Rattle.cfd_implication.specs.Implied.{SatisfyTable}
use Rattle.cert_check.proofs.check.satisfies.Goals as goal

pub returns : goal.returns
returns c =
    let deps-are = c.as_slice.ensures ∙ c.deps.ensures.deps in
    let tuples-are = ap (λ (rows : List (ℕ × List (List ℕ))). tuples_of rows) c.as_slice-2.ensures ∙ c.in_ok-rows.ensures in
    subst (λ (deps : List Dep). IsTrue c.in_ok-yes.yes ↔ SatisfyTable c.args.table deps (c.args.tuple.now ∷ [])) deps-are
    (subst (λ (tuples : List (List (List ℕ))). IsTrue c.in_ok-yes.yes ↔ SatisfyTable c.args.table c.as_slice.result.now tuples) tuples-are c.in_ok-yes.ensures)
