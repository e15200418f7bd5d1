use Rattle.std.proofs.Common.{[]}
use Rattle.std.specs.Prelude.{codes}
use Rattle.std.specs.Option.{option_map_or}
use Rattle.line_grammar.specs.Spelling.{line_text}
use Rattle.cert_text.specs.CertText.{reason_parts}
use Rattle.cert_check.specs.Made.{named_reason}
use Rattle.cert_check.proofs.NodeTexts.{appended, leaf_fit, leaf_text}
use Rattle.cert_check.proofs.tree_lines.push_leaf.Goals as goal

pub returns-clause-text : goal.returns-clause-text
returns-clause-text c =
    let found = named_reason c.args.names.now c.args.reason in
    appended c.args.out.now.items c.extend_from_slice.new.self.items c.push_reason.new.out.items (codes "leaf ") (line_text (option_map_or reason_parts found [])) _ c.in_ok-extend_from_slice.ensures.items (leaf_text found c.requires) c.in_ok-push_reason.ensures.text

pub returns-clause-fit : goal.returns-clause-fit
returns-clause-fit c = leaf_fit c.args.names.now.kind (named_reason c.args.names.now c.args.reason) c.in_ok-push_reason.ensures.fit
