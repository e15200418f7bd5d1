use Rattle.std.proofs.Common.{◌≡◌, map, take, get_or}
use Rattle.case_tree.specs.declared.tree.Node.{Node}
use Rattle.cert_text.specs.declared.tree_nodes.NodePlace.{NodePlace}
use Rattle.cert_check.proofs.trees.forms_at.Given as goal

abbrev pub invariant-loop-place : goal.invariant-loop-place
invariant-loop-place l = (d : Node) → l.nodes.items ≡ map (λ (place : NodePlace). get_or l.fn.forms place.form d) (take l.place-index l.places)
