use Rattle.std.proofs.Common.{[]}
use Rattle.std.specs.Prelude.{codes, slice_get}
use Rattle.std.specs.Option.{option_map_or}
use Rattle.line_grammar.specs.Spelling.{line_text}
use Rattle.cert_text.specs.CertText.{var_parts}
use Rattle.cert_check.proofs.NodeTexts.{appended, split_fit, split_text}
use Rattle.cert_check.proofs.tree_lines.push_split.Goals as goal

pub returns-clause-text : goal.returns-clause-text
returns-clause-text c =
    let found = slice_get c.args.names.now.vars c.args.var in
    appended c.args.out.now.items c.extend_from_slice.new.self.items c.push_var.new.out.items (codes "split ") (line_text (option_map_or var_parts found [])) _ c.in_ok-extend_from_slice.ensures.items (split_text found c.requires) c.in_ok-push_var.ensures.text

pub returns-clause-fit : goal.returns-clause-fit
returns-clause-fit c = split_fit c.args.names.now.kind (slice_get c.args.names.now.vars c.args.var) c.push_var.ensures.fit
