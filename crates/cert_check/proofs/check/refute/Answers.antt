use Rattle.std.proofs.Common.{inl, inr, ◌↔◌, ◌≡◌, ℕ, false, not, List, [], ◌∷◌, ◌∙◌, ap, subst}
use Rattle.std.specs.Prelude.{IsTrue}
use Rattle.std.proofs.lemmas.Bool.{cases_Bool}
use Rattle.cfd_semantics.specs.Tuple.{tuples_of}
use Rattle.rule_model.specs.Books.{book_deps}
use Rattle.rule_model.specs.Satisfied.{SatisfyDep}
use Rattle.rule_model.specs.declared.dep.Dep.{Dep}
use Rattle.cfd_implication.specs.Implied.{SatisfyTable}
use Rattle.cert_check.proofs.check.refute.Goals as goal
use Rattle.cert_check.proofs.check.refute.Goals.{then-satisfied, else-satisfied}

pub returns : goal.returns
returns c =
    let tuples = c.args.one.now ∷ c.args.other.now ∷ [] in
    let deps-are = c.as_slice.ensures ∙ c.deps.ensures.deps in
    let first-are = ap (λ (rows : List (ℕ × List (List ℕ))). tuples_of rows) c.as_slice-2.ensures ∙ c.in_ok-rows.ensures in
    let second-are = ap (λ (rows : List (ℕ × List (List ℕ))). tuples_of rows) c.as_slice-3.ensures ∙ c.in_ok-rows.ensures in
    let table : IsTrue c.in_ok-satisfied.satisfied ↔ SatisfyTable c.args.dep.now.table (book_deps c.args.rules.now) tuples =
    subst (λ (deps : List Dep). IsTrue c.in_ok-satisfied.satisfied ↔ SatisfyTable c.args.dep.now.table deps tuples) deps-are
    (subst (λ (them : List (List (List ℕ))). IsTrue c.in_ok-satisfied.satisfied ↔ SatisfyTable c.args.dep.now.table c.as_slice.result.now them) first-are c.in_ok-satisfied.ensures) in
    let asked : IsTrue c.in_ok-held.held ↔ SatisfyDep c.args.dep.now tuples =
    subst (λ (them : List (List (List ℕ))). IsTrue c.in_ok-held.held ↔ SatisfyDep c.args.dep.now them) second-are c.in_ok-held.ensures in
    elim c.if-satisfied.branch [
      | then-satisfied w ↦ (
        λ yes. record {
          satisfy = table.0 w.if-satisfied.true;
          break = λ holds. let held = asked.1 holds in let opposite : not c.in_ok-held.held ≡ false = ap not held in let shown = w.result-is in cc;
        },
        λ refuted. elim (cases_Bool c.in_ok-held.held) [
          | inl held ↦ absurd (refuted.break (asked.0 held))
          | inr broken ↦ w.result-is ∙ ap not broken
        ],
      )
      | else-satisfied w ↦ (
        λ yes. absurd (let shown = w.result-is in cc),
        λ refuted. absurd (let satisfied = table.1 refuted.satisfy in let unsatisfied = w.if-satisfied.false in cc),
      )
    ]
