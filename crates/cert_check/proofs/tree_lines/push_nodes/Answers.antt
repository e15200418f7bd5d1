use Rattle.std.proofs.Common.{◌≡◌, ℕ, List, [], ◌∷◌, ◌++◌, get_or, ap, ◌∙◌, sym, subst, append_assoc, take}
use Rattle.std.specs.Prelude.{map}
use Rattle.std.proofs.lemmas.List.{get_or_default}
use Rattle.case_tree.specs.declared.tree.Node.{Node}
use Rattle.case_tree.specs.declared.tree.Node.TheVariants.{Unclosed}
use Rattle.line_grammar.specs.Spelling.{file_text, line_text}
use Rattle.cert_check.specs.Made.{IsFitNode, named_parts}
use Rattle.cert_text.proofs.CertTexts.{lines_next}
use Rattle.cert_check.proofs.NodeTexts.{all_next}
use Rattle.cert_check.proofs.tree_lines.push_nodes.Goals as goal

pub loop-node-preserved : goal.loop-node-preserved
loop-node-preserved c =
    let names = c.args.names.now in
    let nodes = c.args.nodes.now in
    let i = c.loop-node.node-index in
    let node : Node = get_or nodes i Unclosed in
    let out = c.args.out.now.items in
    let before = file_text (map (named_parts names) (take i nodes)) in
    let line = line_text (named_parts names node) in
    let there : node ≡ get_or nodes i node = get_or_default nodes i Unclosed node c.loop-node-test.true in
    let same = get_or_default nodes i _ Unclosed c.loop-node-test.true in
    let pushed : c.push_node.new.out.items ≡ c.loop-node.out.items ++ line = c.in_ok-push_node.ensures.text ∙ ap (λ (n : Node). c.loop-node.out.items ++ line_text (named_parts names n)) same in
    let whole = c.in_ok-push.ensures.items ∙ ap (λ (t : List ℕ). t ++ 10 ∷ []) pushed ∙ append_assoc c.loop-node.out.items line (10 ∷ []) ∙ ap (λ (t : List ℕ). t ++ (line ++ 10 ∷ [])) c.loop-node.invariant.text ∙ append_assoc out before (line ++ 10 ∷ []) in
    record {
      text = whole ∙ ap (λ (t : List ℕ). out ++ t) (sym (lines_next (named_parts names) nodes i node c.loop-node-test.true there));
      fit = all_next (IsFitNode names) nodes i node c.loop-node-test.true there c.loop-node.invariant.fit (subst (IsFitNode names) same c.in_ok-push_node.ensures.fit);
    }
