use Rattle.std.proofs.Common.{◌≡◌, map, take}
use Rattle.cert_text.specs.declared.names.NodeName.{NodeName}
use Rattle.cert_check.specs.Nodes.{node_of}
use Rattle.cert_check.proofs.trees.forms_of.Given as goal

abbrev pub invariant-loop-form : goal.invariant-loop-form
invariant-loop-form l = l.nodes.items ≡ map (λ (form : NodeName). node_of l.names form) (take l.form-index l.forms)
