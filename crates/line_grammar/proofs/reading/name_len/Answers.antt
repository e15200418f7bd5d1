use Rattle.text_lists.specs.Names.{is_name_byte}
use Rattle.line_grammar.proofs.Runs.{prefix_len-found}
use Rattle.line_grammar.proofs.reading.name_len.Goals as goal

pub returns-clause-len : goal.returns-clause-len
returns-clause-len c = prefix_len-found is_name_byte c.args.bytes.now 64 c.min.result _ c.name_end.result c.min.ensures c.name_end.ensures c.unwrap_or.ensures
