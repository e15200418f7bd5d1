use Rattle.std.proofs.Common.{◌≡◌, take}
use Rattle.case_tree.specs.CaseTree.{leaf_count}
use Rattle.cert_check.proofs.made.leaf_count.Given as goal

abbrev pub invariant-loop-node : goal.invariant-loop-node
invariant-loop-node l = l.leaves ≡ leaf_count (take l.node-index l.nodes)
