use Rattle.std.proofs.Common.{subst}
use Rattle.case_search.specs.Answer.{IsDecision}
use Rattle.case_search.proofs.search.go_on.Goals as goal

pub shorter-requires-clause-refutes : goal.shorter-requires-clause-refutes
shorter-requires-clause-refutes c =
    (subst (IsDecision c.args.clauses.now c.args.budget) c.in-Refuted.is c.in_ok-values-2.ensures).0

pub shorter-requires-clause-within : goal.shorter-requires-clause-within
shorter-requires-clause-within c =
    (subst (IsDecision c.args.clauses.now c.args.budget) c.in-Refuted.is c.in_ok-values-2.ensures).1

pub returns-in-Model : goal.returns-in-Model
returns-in-Model c = subst (IsDecision c.args.clauses.now c.args.budget) c.in-Model.is c.in_ok-values-2.ensures

pub returns-in_ok-shorter-in-Refuted : goal.returns-in_ok-shorter-in-Refuted
returns-in_ok-shorter-in-Refuted c =
    (c.in_ok-shorter-in-Refuted.ensures.refutes, c.in_ok-shorter-in-Refuted.ensures.within)

pub returns-in-Spent : goal.returns-in-Spent
returns-in-Spent c = subst (IsDecision c.args.clauses.now c.args.budget) c.in-Spent.is c.in_ok-values-2.ensures
