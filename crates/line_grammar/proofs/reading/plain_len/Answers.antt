use Rattle.line_grammar.specs.Tokens.{is_special}
use Rattle.line_grammar.proofs.Runs.{unwrap_or-position_or_len}
use Rattle.line_grammar.proofs.reading.plain_len.Goals as goal

pub returns-clause-len : goal.returns-clause-len
returns-clause-len c = unwrap_or-position_or_len is_special c.args.bytes.now c.special_at.result _ c.special_at.ensures c.unwrap_or.ensures
