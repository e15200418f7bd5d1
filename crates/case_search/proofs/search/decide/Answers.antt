use Rattle.std.proofs.Common.{subst, arith}
use Rattle.case_search.specs.Answer.{IsDecision}
use Rattle.case_search.proofs.search.decide.Goals as goal

pub returns-in-Model : goal.returns-in-Model
returns-in-Model c = subst (IsDecision c.args.clauses.now 1000) c.in-Model.is c.in_ok-values.ensures

pub returns-in-Refuted : goal.returns-in-Refuted
returns-in-Refuted c =
    let told = subst (IsDecision c.args.clauses.now 1000) c.in-Refuted.is c.in_ok-values.ensures in
    (told.0, omega (arith, told.1, c.if-budget-le-FIRST_LEAVES.false))
