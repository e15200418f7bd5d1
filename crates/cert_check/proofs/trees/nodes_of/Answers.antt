use Rattle.std.proofs.Common.{List, map, get_or, ap, ◌∙◌}
use Rattle.case_tree.specs.declared.tree.Node.{Node}
use Rattle.case_tree.specs.declared.tree.Node.TheVariants.{Unclosed}
use Rattle.cert_text.specs.declared.cert.NodeLine.{NodeLine}
use Rattle.cert_text.specs.declared.tree_nodes.NodePlace.{NodePlace}
use Rattle.cert_check.specs.Shown.{nodes_of}
use Rattle.cert_check.proofs.NodeLines.{numbered}
use Rattle.cert_check.proofs.trees.nodes_of.Goals as goal

pub returns : goal.returns
returns c =
    let names = c.args.names.now in
    let places = c.parts.result.1.now in
    c.in_ok-nodes.ensures Unclosed
    ∙ ap (λ (forms : List Node). map (λ (place : NodePlace). get_or forms place.form Unclosed) places) (c.as_slice.ensures.value ∙ c.in_ok-forms.ensures)
    ∙ numbered names c.parts.result.0.now places
    ∙ ap (λ (lines : List NodeLine). nodes_of names lines) c.parts.ensures.lines
