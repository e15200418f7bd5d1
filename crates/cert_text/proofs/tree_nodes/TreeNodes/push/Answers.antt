use Rattle.std.proofs.Common.{List, [], ◌∷◌, ◌++◌, length, ap, ◌∙◌}
use Rattle.cert_text.specs.declared.cert.NodeLine.{NodeLine}
use Rattle.cert_text.specs.declared.names.NodeName.{NodeName}
use Rattle.cert_text.specs.declared.tree_nodes.NodePlace.{NodePlace}
use Rattle.cert_text.specs.TreeNodes.{lines_of}
use Rattle.cert_text.proofs.NodePlaces.{lines_of-push}
use Rattle.cert_text.proofs.tree_nodes.TreeNodes.push.Goals as goal

pub returns : goal.returns
returns c =
    let old = c.self.inside in
    let node = c.args.node in
    ap (λ (forms : List NodeName). lines_of forms c.push-2.new.self) c.in_ok-push.ensures.ok
    ∙ ap (λ (places : List NodePlace). lines_of (old.forms ++ node.node ∷ []) places) c.in_ok-push-2.ensures.ok
    ∙ ap (λ (forms : List NodeName). lines_of (old.forms ++ node.node ∷ []) (old.places ++ record { line = node.line; form = length forms } ∷ [])) c.as_slice-form.ensures
    ∙ lines_of-push old.forms old.places node c.self.invariant
    ∙ ap (λ (lines : List NodeLine). lines ++ node ∷ []) c.self.view_is
