use Rattle.std.proofs.Common.{sym, ◌∙◌, arith}
use Rattle.rule_runs.specs.Starts.{stage_of}
use Rattle.rule_runs.proofs.StartFacts.{applies_by_rule, written_by}
use Rattle.rule_runs.proofs.lookup.rows_to_try.Goals as goal

pub returns-in-Some-clause-only : goal.returns-in-Some-clause-only
returns-in-Some-clause-only c row there =
    let by_rule = applies_by_rule c.args.start.now (stage_of c.args.tuple.now c.args.z) c.args.number c.in-Some.rule.now row c.in-Some.ensures.there in
    by_rule.1 (c.in-Some.ensures.ready, c.rows_telling.ensures.only row there)

pub returns-in-Some-clause-each : goal.returns-in-Some-clause-each
returns-in-Some-clause-each c row applies =
    let start = c.args.start.now in
    let rule = c.in-Some.rule.now in
    let is = c.in-Some.ensures.there in
    let by_rule = applies_by_rule start (stage_of c.args.tuple.now c.args.z) c.args.number rule row is in
    let (other, among, same) = c.rows_telling.ensures.each row (by_rule.0 applies).1 in
    (other, among, written_by start c.args.number rule other is ∙ same ∙ sym (written_by start c.args.number rule row is))

pub returns-in-None-clause-only : goal.returns-in-None-clause-only
returns-in-None-clause-only c row (k, within, is) = absurd (omega arith)

pub returns-in-None-clause-each : goal.returns-in-None-clause-each
returns-in-None-clause-each c row applies = absurd (c.in-None.ensures row applies)
