use Rattle.std.proofs.Common.{◌+◌, ◌≤◌, ◌↔◌, drop}
use Rattle.case_tree.proofs.Preorder.{AreTrees}
use Rattle.case_tree.proofs.tree.is_one_tree.Given as goal

abbrev pub invariant-loop-node : goal.invariant-loop-node
invariant-loop-node l = record {
  at_most : l.pending ≤ l.node-index + 1;
  same : AreTrees 1 l.nodes ↔ AreTrees l.pending (drop l.node-index l.nodes);
}
