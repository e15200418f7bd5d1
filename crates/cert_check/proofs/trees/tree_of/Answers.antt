use Rattle.std.proofs.Common.{sym, subst}
use Rattle.case_tree.specs.CaseTree.{IsOneTree}
use Rattle.cert_check.proofs.OneTrees.{one_tree}
use Rattle.cert_check.proofs.trees.tree_of.Goals as goal

pub unreachable-requires : goal.unreachable-requires
unreachable-requires c =
    let no = c.in-Err.ensures.one_tree.1 (subst IsOneTree (sym c.in_ok-nodes.ensures) (one_tree c.args.names.now c.args.lines.now c.requires)) in
    cc
