use Rattle.std.proofs.Common.{◌≡◌, ℕ, ◌<◌, List, ap, length, sym, subst, ◌∙◌, arith, ⊎_elim}
use Rattle.std.specs.List.{All, Contains}
use Rattle.std.proofs.lemmas.Bool.{cases_lt}
use Rattle.std.proofs.lemmas.Option.{slice_get_within}
use Rattle.std.specs.Prelude.{slice_get}
use Rattle.case_tree.specs.declared.clauses.Literal.{Literal}
use Rattle.case_tree.specs.CaseTree.{var_count}
use Rattle.case_tree.proofs.Lists.{All-at}
use Rattle.case_search.specs.Places.{list_of}
use Rattle.case_search.proofs.guards.guard_all.Goals as goal

pub guard_by_first-requires : goal.guard_by_first-requires
guard_by_first-requires c =
    rw c.loop-at.invariant.vars (All-at (All (λ (literal : Literal). literal.var < var_count c.args.clauses.now.cells)) c.args.clauses.now.clauses c.loop-at.at c.clause.result.now c.vars.ensures.well_formed.literals_in_cells c.clause.ensures)

pub loop-at-preserved : goal.loop-at-preserved
loop-at-preserved c = record {
  vars = c.in_ok-guard_by_first.ensures.vars ∙ c.loop-at.invariant.vars;
  guarded = λ k clause before there some.
      ⊎_elim
      (λ earlier.
      let (literal, inside, listed) = c.loop-at.invariant.guarded k clause earlier there some in
      (literal, inside, c.in_ok-guard_by_first.ensures.kept literal k listed))
      (λ later.
      let same : k ≡ c.loop-at.at = omega arith in
      let equal : c.clause.result.now ≡ clause = let moved = ap (slice_get c.args.clauses.now.clauses) same in let here = c.clause.ensures in cc in
      let (literal, inside, listed) = c.in_ok-guard_by_first.ensures.guarded (omega (arith, ap length equal)) in
      (literal, subst (λ (xs : List Literal). Contains xs literal) equal inside, subst (λ (i : ℕ). Contains (list_of c.guard_by_first.new.guards literal) i) (sym same) listed))
      (cases_lt k c.loop-at.at);
}

pub returns-clause-guarded : goal.returns-clause-guarded
returns-clause-guarded c = record {
  guard = λ k clause there some.
      let within = slice_get_within _ k clause there in
      let (literal, inside, listed) = c.loop-at.invariant.guarded k clause (omega (arith, c.clause_count-at-end.ensures.count)) there some in
      (literal, inside, (λ is_false. cc), listed);
}
