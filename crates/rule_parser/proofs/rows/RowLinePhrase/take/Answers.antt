use Rattle.std.proofs.Common.{refl}
use Rattle.rule_parser.specs.RuleLines.{cell_at}
use Rattle.rule_parser.proofs.rows.RowLinePhrase.take.Goals as goal

pub list_until-requires : goal.list_until-requires
unfolding cell_at
list_until-requires c = λ rest. refl
