use Rattle.std.proofs.Common.{◌≡◌, ℕ, ◌<◌, List, [], ◌∷◌, ◌++◌, length, get_or, ap, ◌∙◌, sym, append_assoc, take, arith}
use Rattle.std.specs.Prelude.{map}
use Rattle.std.proofs.lemmas.List.{get_or_default}
use Rattle.line_grammar.specs.Spelling.{file_text, line_text}
use Rattle.cert_text.specs.CertText.{node_line, node_parts}
use Rattle.cert_text.specs.declared.cert.NodeLine.{NodeLine}
use Rattle.cert_text.specs.declared.names.NodeName.{NodeName}
use Rattle.cert_text.specs.declared.names.NodeName.TheVariants.{Open}
use Rattle.cert_text.proofs.CertTexts.{lines_next}
use Rattle.cert_text.proofs.print.push_nodes.Goals as goal

pub loop-place-preserved : goal.loop-place-preserved
loop-place-preserved c =
    let nodes = c.args.nodes.now in
    let i = c.loop-place.place in
    let spare : NodeLine = record { line = 0; node = Open } in
    let node : NodeLine = get_or nodes i spare in
    let out = c.args.out.now.items in
    let before = file_text (map node_line (take i nodes)) in
    let line = line_text (node_line node) in
    let within : i < length nodes = omega (arith, c.loop-place-test.true, c.len-place-end.ensures.count) in
    let there : node ≡ get_or nodes i node = get_or_default nodes i spare node within in
    let pushed : c.push_node.new.out.items ≡ c.loop-place.out.items ++ line = c.in_ok-push_node.ensures ∙ ap (λ (n : NodeName). c.loop-place.out.items ++ line_text (node_parts n)) (c.node_at.ensures spare) in
    c.in_ok-push.ensures.items ∙ ap (λ (t : List ℕ). t ++ 10 ∷ []) pushed ∙ append_assoc c.loop-place.out.items line (10 ∷ []) ∙ ap (λ (t : List ℕ). t ++ (line ++ 10 ∷ [])) c.loop-place.invariant ∙ append_assoc out before (line ++ 10 ∷ [])
    ∙ ap (λ (t : List ℕ). out ++ t) (sym (lines_next node_line nodes i node within there))
