use Rattle.std.proofs.Common.{ℕ, ◌++◌, ◌∷◌, [], List, refl, ap, ◌∙◌, subst, append_assoc}
use Rattle.line_grammar.specs.Spelling.{file_text}
use Rattle.rule_model.specs.declared.dep.Dep.{Dep}
use Rattle.cert_check.specs.Made.{IsTreeText}
use Rattle.cert_check.specs.Shown.{asks_from}
use Rattle.rule_cover.specs.CoverText.{head_parts}
use Rattle.rule_cover.proofs.text.push_tree_fate.Goals as goal

pub returns : goal.returns
returns c =
    let schema = c.args.schema.now in
    let asked = c.args.asked.now in
    let others = asked.before ++ asked.after in
    let nodes = c.in_ok-nodes.nodes.items in
    let head = file_text (head_parts schema c.args.word.now c.args.number asked.piece ∷ []) in
    let of_piece = subst (λ (piece : Dep). IsTreeText (asks_from schema c.others.result.now piece).names c.args.tree.now nodes) c.piece.ensures c.in_ok-nodes.ensures in
    let is_text = subst (λ (ds : List Dep). IsTreeText (asks_from schema ds asked.piece).names c.args.tree.now nodes) c.others.ensures of_piece in
    let headed = c.in_ok-push_head.ensures ∙ ap (λ (piece : Dep). c.args.out.now.items ++ file_text (head_parts schema c.args.word.now c.args.number piece ∷ [])) c.piece-2.ensures in
    let whole =
    c.in_ok-extend_from_slice.ensures.items
    ∙ ap (λ (bytes : List ℕ). c.push_head.new.out.items ++ bytes) c.deref.ensures.value
    ∙ ap (λ (bytes : List ℕ). bytes ++ nodes) headed
    ∙ append_assoc c.args.out.now.items head nodes in
    (head ++ nodes, (nodes, is_text, refl), whole)
