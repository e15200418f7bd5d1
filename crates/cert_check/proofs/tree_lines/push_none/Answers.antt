use Rattle.std.proofs.Common.{[]}
use Rattle.std.specs.Prelude.{codes}
use Rattle.std.specs.Option.{option_map_or}
use Rattle.line_grammar.specs.Spelling.{line_text}
use Rattle.cert_text.specs.CertText.{cell_name_parts}
use Rattle.cert_check.specs.Names.{named_cell}
use Rattle.cert_check.proofs.NodeTexts.{appended, none_fit, none_text}
use Rattle.cert_check.proofs.tree_lines.push_none.Goals as goal

pub returns-clause-text : goal.returns-clause-text
returns-clause-text c =
    let found = named_cell c.args.names.now.cells c.args.at in
    appended c.args.out.now.items c.extend_from_slice.new.self.items c.push_cell.new.out.items (codes "none ") (line_text (option_map_or cell_name_parts found [])) _ c.in_ok-extend_from_slice.ensures.items (none_text found c.requires) c.in_ok-push_cell.ensures.text

pub returns-clause-fit : goal.returns-clause-fit
returns-clause-fit c = none_fit c.args.names.now.kind (named_cell c.args.names.now.cells c.args.at) c.push_cell.ensures.fit
