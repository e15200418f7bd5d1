use Rattle.std.proofs.Common.{arith}
use Rattle.rule_runs.specs.Starts.{stage_of}
use Rattle.rule_runs.proofs.StartFacts.{applies_by_rule}
use Rattle.rule_runs.proofs.lookup.rows_that_apply.Goals as goal

pub returns-in-Some-clause-rows : goal.returns-in-Some-clause-rows
returns-in-Some-clause-rows c row =
    let by_rule = applies_by_rule c.args.start.now (stage_of c.args.tuple.now c.args.z) c.args.number c.in-Some.rule.now row c.in-Some.ensures.there in
    let rows = c.rows_alike.ensures.rows row in
    (λ there. by_rule.1 (c.in-Some.ensures.ready, rows.0 there), λ applies. rows.1 (by_rule.0 applies).1)

pub returns-in-None-clause-rows : goal.returns-in-None-clause-rows
returns-in-None-clause-rows c row = (λ (k, within, is). absurd (omega arith), λ applies. absurd (c.in-None.ensures row applies))
