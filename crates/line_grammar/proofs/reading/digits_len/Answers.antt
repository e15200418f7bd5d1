use Rattle.std.specs.Char.{is_ascii_digit}
use Rattle.line_grammar.proofs.Runs.{prefix_len-found}
use Rattle.line_grammar.proofs.reading.digits_len.Goals as goal

pub returns-clause-len : goal.returns-clause-len
returns-clause-len c = prefix_len-found is_ascii_digit c.args.bytes.now 12 c.min.result _ c.digits_end.result c.min.ensures c.digits_end.ensures c.unwrap_or.ensures
