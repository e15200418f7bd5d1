use Rattle.std.proofs.Common.{arith}
use Rattle.std.proofs.lemmas.Option.{slice_get_within}
use Rattle.case_search.proofs.Around.{root_quiet}
use Rattle.case_search.proofs.step.empty_clause.Goals as goal

pub returns-clause-none : goal.returns-clause-none
returns-clause-none c =
    root_quiet c.args.clauses.now c.clause_count-at-end.ensures.well_formed
    (λ k clause there. let within = slice_get_within _ k clause there in let count = c.clause_count-at-end.ensures.count in c.loop-at.invariant k clause (omega arith) there)
