use Rattle.std.proofs.Common.{ℕ, List, ◌++◌, ap, ◌∙◌, subst}
use Rattle.std.specs.Prelude.{All, map}
use Rattle.case_tree.specs.declared.tree.Node.{Node}
use Rattle.line_grammar.specs.Spelling.{file_text}
use Rattle.cert_text.specs.CertText.{tree_head}
use Rattle.cert_check.specs.Made.{IsFitNode, named_parts}
use Rattle.cert_check.proofs.NodeTexts.{cert_told}
use Rattle.cert_check.proofs.made.tree_cert_text.Goals as goal

pub returns : goal.returns
returns c =
    let names = c.args.names.now in
    let head = file_text (tree_head c.args.question.now c.args.budget) in
    cert_told names c.args.question.now c.args.budget c.args.tree.now c.push_nodes.new.out.items c.requires.question c.requires.kind c.requires.budget c.requires.named c.nodes.ensures.one_tree
    (subst (All (IsFitNode names)) c.nodes.ensures.nodes c.in_ok-push_nodes.ensures.fit)
    (c.in_ok-push_nodes.ensures.text
    ∙ ap (λ (t : List ℕ). t ++ file_text (map (named_parts names) c.nodes.result.now)) c.in_ok-out.ensures
    ∙ ap (λ (ns : List Node). head ++ file_text (map (named_parts names) ns)) c.nodes.ensures.nodes)
