use Rattle.std.proofs.Common.{◌≡◌, true, false, refl, sym, ap, subst, ◌∙◌, inl, inr, arith}
use Rattle.std.proofs.lemmas.Bool.{cases_lt}
use Rattle.std.proofs.lemmas.Bool.Decides.{nat_tests}
use Rattle.bench_core.specs.DirtyCounts.{cind_dirty, dep_dirty}
use Rattle.violation_report.specs.RuleNumbers.{number_at, rule_at}
use Rattle.violation_report.proofs.CleanFacts.{clean_satisfied, rule_dirty, rules_clean}
use Rattle.violation_report.proofs.clean.is_clean.Goals as goal

pub loop-place-preserved : goal.loop-place-preserved
loop-place-preserved c k below =
    let rules = c.args.bench.now.rules in
    let state = c.args.bench.now.history.present in
    let dirty = number_at (dep_dirty state) (cind_dirty state) rules in
    elim (cases_lt k c.loop-place.place) [
      | inl before ↦ c.loop-place.invariant k before
      | inr past ↦
          let here : c.loop-place.place ≡ k = omega (arith, below, past) in
          let nothing : c.dirty_of-dirty.result ≡ 0 = grind (arith, nat_tests, c.if-dirty-ne0.false) in
          subst (λ n. dirty (rule_at rules n) ≡ 0) here (sym (ap dirty c.rule_at.ensures.is) ∙ sym c.dirty_of-dirty.ensures ∙ nothing)
    ]

pub returns-then-dirty-ne0-clause-empty : goal.returns-then-dirty-ne0-clause-empty
returns-then-dirty-ne0-clause-empty c = (
  (λ no. absurd (cc)),
  (λ empty.
      absurd (rule_dirty c.args.bench.now.rules c.args.bench.now.history.present c.rule_at.result c.rule_at.ensures.there
      (λ none. let nothing : c.dirty_of-dirty.result ≡ 0 = c.dirty_of-dirty.ensures ∙ none in absurd (grind (arith, nat_tests, c.if-dirty-ne0.true, nothing))) empty)),
)

pub returns-then-dirty-ne0-clause-law : goal.returns-then-dirty-ne0-clause-law
returns-then-dirty-ne0-clause-law c = clean_satisfied c.args.bench.now.rules c.args.bench.now.history.present false (returns-then-dirty-ne0-clause-empty c)

pub returns-clause-empty : goal.returns-clause-empty
returns-clause-empty c = (
  (λ yes. rules_clean c.args.bench.now.rules c.args.bench.now.history.present (λ k within. c.loop-place.invariant k (omega (arith, within, c.loop-place-test.false, c.rule_count-place-end.ensures)))),
  (λ empty. refl),
)

pub returns-clause-law : goal.returns-clause-law
returns-clause-law c = clean_satisfied c.args.bench.now.rules c.args.bench.now.history.present true (returns-clause-empty c)
