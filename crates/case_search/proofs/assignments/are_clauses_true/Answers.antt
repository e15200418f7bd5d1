use Rattle.std.proofs.Common.{◌≡◌, false, get_or, ap, subst, ⊎_elim, arith}
use Rattle.std.specs.Prelude.{slice_get}
use Rattle.std.specs.List.{Any}
use Rattle.std.proofs.lemmas.Bool.{cases_lt}
use Rattle.std.proofs.lemmas.Option.{slice_get-get_or}
use Rattle.case_tree.specs.CaseTree.{IsTrueUnder}
use Rattle.case_search.proofs.assignments.are_clauses_true.Goals as goal

pub loop-at-preserved : goal.loop-at-preserved
loop-at-preserved c =
    λ k clause before there.
    ⊎_elim
    (λ earlier. c.loop-at.invariant k clause earlier there)
    (λ later.
    let same : k ≡ c.loop-at.at = omega arith in
    let equal : c.clause.result.now ≡ clause = let moved = ap (slice_get c.args.clauses.now.clauses) same in let here = c.clause.ensures in cc in
    subst (Any (IsTrueUnder (λ v. get_or c.args.values.now v false))) equal (c.is_clause_true.ensures c.if-not-is_clause_true.false))
    (cases_lt k c.loop-at.at)

pub returns : goal.returns
returns c =
    λ _. λ k d in_range.
    c.loop-at.invariant k (get_or c.args.clauses.now.clauses k d) (omega (arith, c.clause_count-at-end.ensures.count, in_range)) (slice_get-get_or c.args.clauses.now.clauses k d in_range)
