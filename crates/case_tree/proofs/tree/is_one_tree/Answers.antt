use Rattle.std.proofs.Common.{◌<◌, arith, ⊎_elim, eq-eqb}
use Rattle.std.proofs.lemmas.List.{drop_all}
use Rattle.std.proofs.lemmas.Bool.{eqb-true}
use Rattle.case_tree.proofs.Preorder.{AreTrees-more, AreTrees-past, AreTrees-nil, AreTrees-from_tree, tree_of}
use Rattle.case_tree.proofs.tree.is_one_tree.Goals as goal
use Rattle.case_tree.proofs.tree.is_one_tree.Goals.{in-Split, in-Leaf}

pub returns-then-pending-eq0 : goal.returns-then-pending-eq0
returns-then-pending-eq0 c =
    let read = c.loop-node.invariant.same.0 in
    (λ wrong. cc, λ one. absurd (AreTrees-past _ _ c.loop-node-test.true (rw c.if-pending-eq0.true at (read (AreTrees-from_tree _ one)))))

pub loop-node-preserved : goal.loop-node-preserved
loop-node-preserved c =
    let before = c.loop-node.invariant.same in
    let in_range = c.loop-node-test.true in
    let asked : 0 < c.loop-node.pending = omega arith in
    elim c.match-node.branch [
      | in-Split w ↦
          let step = AreTrees-more _ _ _ _ _ _ in_range w.in-Split.is asked w.pending-is in
          record { at_most = omega arith; same = (λ h. step.0 (before.0 h), λ h. before.1 (step.1 h)) }
      | in-Leaf w ↦
          let step = ⊎_elim
          (λ leaf. AreTrees-more _ _ _ _ _ _ in_range leaf.1 asked w.pending-is)
          (λ unclosed. AreTrees-more _ _ _ _ _ _ in_range unclosed asked w.pending-is)
          w.in-Leaf.is
          in
          record { at_most = omega arith; same = (λ h. step.0 (before.0 h), λ h. before.1 (step.1 h)) }
    ]

pub returns : goal.returns
returns c =
    let before = c.loop-node.invariant.same in
    let done = drop_all c.loop-node.node-index c.args.nodes.now (omega arith) in (
      λ zero. tree_of _ (before.1 (rw (done, eqb-true _ _ zero) tt)),
      λ one. eq-eqb _ _ (AreTrees-nil _ (rw done at (before.0 (AreTrees-from_tree _ one)))),
    )
