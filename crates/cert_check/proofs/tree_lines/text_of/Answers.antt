use Rattle.std.proofs.Common.{ℕ, List, ◌++◌, ap, ◌∙◌}
use Rattle.std.specs.Prelude.{map}
use Rattle.case_tree.specs.declared.tree.Node.{Node}
use Rattle.line_grammar.specs.Spelling.{file_text}
use Rattle.cert_check.specs.Made.{named_parts}
use Rattle.cert_check.proofs.NodeTexts.{tree_told}
use Rattle.cert_check.proofs.tree_lines.text_of.Goals as goal

pub returns : goal.returns
returns c =
    let names = c.args.names.now in
    tree_told names c.args.tree.now c.push_nodes.new.out.items c.requires
    (c.in_ok-push_nodes.ensures.text
    ∙ ap (λ (t : List ℕ). t ++ file_text (map (named_parts names) c.nodes.result.now)) c.new-out.ensures.items
    ∙ ap (λ (ns : List Node). file_text (map (named_parts names) ns)) c.nodes.ensures.nodes)
