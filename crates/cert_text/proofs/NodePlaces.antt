-- Nodes by their places among the forms.
use Rattle.std.proofs.Common.{◌≡◌, ◌<◌, List, [], ◌∷◌, ◌++◌, length, get_or, refl, ap, ◌∙◌}
use Rattle.std.specs.List.{AllByRecursion}
use Rattle.std.proofs.lemmas.List.{get_or_append_left, get_or_push, map-append}
use Rattle.std.proofs.lemmas.List.Elements.{recursion_from_All}
use Rattle.cert_text.specs.declared.cert.NodeLine.{NodeLine}
use Rattle.cert_text.specs.declared.names.NodeName.{NodeName}
use Rattle.cert_text.specs.declared.names.NodeName.TheVariants.{Open}
use Rattle.cert_text.specs.declared.tree_nodes.NodePlace.{NodePlace}
use Rattle.cert_text.specs.TreeNodes.{AreWithin, line_of, lines_of}

-- one more form changes none of the others
same_lines : (forms : List NodeName) (form : NodeName) (places : List NodePlace) → AllByRecursion (λ (place : NodePlace). place.form < length forms) places → lines_of (forms ++ form ∷ []) places ≡ lines_of forms places
same_lines forms form [] are = refl
same_lines forms form (place ∷ places) are =
    ap (λ (node : NodeName). record { line = place.line; node = node } ∷ lines_of (forms ++ form ∷ []) places) (get_or_append_left forms (form ∷ []) Open place.form are.0)
    ∙ ap (λ (lines : List NodeLine). line_of forms place ∷ lines) (same_lines forms form places are.1)

-- a node of a form of its own
pub lines_of-push : (forms : List NodeName) (places : List NodePlace) (node : NodeLine) → AreWithin forms places
    → lines_of (forms ++ node.node ∷ []) (places ++ record { line = node.line; form = length forms } ∷ []) ≡ lines_of forms places ++ node ∷ []
lines_of-push forms places node are =
    let more = forms ++ node.node ∷ [] in
    map-append (λ (place : NodePlace). line_of more place) places (record { line = node.line; form = length forms } ∷ [])
    ∙ ap (λ (lines : List NodeLine). lines ++ record { line = node.line; node = get_or more (length forms) Open } ∷ []) (same_lines forms node.node places (recursion_from_All (λ (place : NodePlace). place.form < length forms) places are))
    ∙ ap (λ (form : NodeName). lines_of forms places ++ record { line = node.line; node = form } ∷ []) (get_or_push forms node.node Open (length forms) refl)
