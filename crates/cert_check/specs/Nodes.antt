-- Nodes by numbers and by names.
use Rattle.std.specs.Prelude.{◌-◌, Bool, true, false}
use Rattle.case_tree.specs.declared.tree.Node.{Node}
use Rattle.case_tree.specs.declared.tree.Node.TheVariants as nodes
use Rattle.case_tree.specs.declared.tree.Reason.{Reason}
use Rattle.case_tree.specs.declared.tree.Reason.TheVariants as reasons
use Rattle.cert_text.specs.declared.names.ReasonName.{ReasonName}
use Rattle.cert_text.specs.declared.names.ReasonName.TheVariants.{Clause, Two, NoneOf}
use Rattle.cert_text.specs.declared.names.NodeName.{NodeName}
use Rattle.cert_text.specs.declared.names.NodeName.TheVariants.{Split, Leaf, Open}
use Rattle.cert_check.specs.Names.{Names, var_number, cell_number}

-- The node with numbers in place of names. Clauses are numbered from 1 in certificates, and from 0 in trees.
abbrev pub reason_of : Names → ReasonName → Reason
reason_of names (Clause number) = reasons.Clause (number - 1)
reason_of names (Two one other) = reasons.Two (var_number names one) (var_number names other)
reason_of names (NoneOf cell) = reasons.NoneOf (cell_number names cell)

abbrev pub node_of : Names → NodeName → Node
node_of names (Split v) = nodes.Split (var_number names v)
node_of names (Leaf reason) = nodes.Leaf (reason_of names reason)
node_of names Open = nodes.Unclosed

abbrev pub is_open : NodeName → Bool
is_open (Split v) = false
is_open (Leaf reason) = false
is_open Open = true
