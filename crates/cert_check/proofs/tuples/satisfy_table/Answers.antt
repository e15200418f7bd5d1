use Rattle.std.proofs.Common.{inl, inr, ◌≡◌, refl, ◌∙◌, sym, ap, subst, get_or, arith}
use Rattle.std.proofs.lemmas.Bool.{cases_lt}
use Rattle.std.proofs.lemmas.List.{get_or_default}
use Rattle.cfd_semantics.specs.Tuple.{tuples_of}
use Rattle.rule_model.specs.Satisfied.{SatisfyDep}
use Rattle.rule_model.specs.declared.dep.Dep.{Dep}
use Rattle.cert_check.proofs.tuples.satisfy_table.Goals as goal

pub returns-then-not-yes : goal.returns-then-not-yes
returns-then-not-yes c = (
  λ no. absurd cc,
  λ all. absurd (let yes = c.in_ok-yes.ensures.1 (λ here. all c.dep-item.result (c.loop-dep.dep-index, c.loop-dep-test.true, sym c.dep-item.is) here) in let no = c.if-not-yes.true in cc),
)

pub loop-dep-preserved : goal.loop-dep-preserved
loop-dep-preserved c k d less here = elim (cases_lt k c.loop-dep.dep-index) [
  | inl before ↦ c.loop-dep.invariant k d before here
  | inr at ↦ (
      let deps = c.args.deps.now in
      let i = c.loop-dep.dep-index in
      let same : k ≡ i = omega arith in
      let item : get_or deps k d ≡ c.dep-item.result = ap (λ n. get_or deps n d) same ∙ get_or_default deps i d c.dep-item.result c.loop-dep-test.true ∙ sym c.dep-item.is in
      subst (λ (dep : Dep). SatisfyDep dep (tuples_of c.args.rows.now)) (sym item) (c.in_ok-yes.ensures.0 c.if-not-yes.false (sym (ap (λ (dep : Dep). dep.table) item) ∙ here)))
]

pub returns : goal.returns
returns c = (
  λ yes dep there here. subst (λ (it : Dep). SatisfyDep it (tuples_of c.args.rows.now)) there.2 (c.loop-dep.invariant there.0 dep (let within = there.1 in omega (arith, c.loop-dep-test.false)) (ap (λ (it : Dep). it.table) there.2 ∙ here)),
  λ all. refl,
)
