use Rattle.rule_parser.proofs.DepRows.{one_row}
use Rattle.rule_parser.proofs.alone.judged.Goals as goal

pub returns-in-Ok-clause-row : goal.returns-in-Ok-clause-row
returns-in-Ok-clause-row c = one_row c.args.schema.now c.args.cfd c.in-Ok.dep c.requires c.in-Ok.ensures.exact
