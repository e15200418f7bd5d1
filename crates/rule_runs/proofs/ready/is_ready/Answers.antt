use Rattle.rule_runs.proofs.StartFacts.{reads_within}
use Rattle.rule_runs.proofs.ready.is_ready.Goals as goal

pub is_ready_inside-requires-clause-within : goal.is_ready_inside-requires-clause-within
is_ready_inside-requires-clause-within c =
    reads_within c.args.start.now c.args.rule.now c.args.tuple.now c.requires.rule c.if-rule-start.true c.requires.tuple
