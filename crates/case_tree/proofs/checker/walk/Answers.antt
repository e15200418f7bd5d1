use Rattle.std.proofs.Common.{◌≡◌, ◌∷◌, List, ap, ◌∙◌}
use Rattle.std.proofs.lemmas.Bool.{iff_false}
use Rattle.case_tree.specs.declared.clauses.Literal.{Literal}
use Rattle.case_tree.specs.Walk.{Way, next_path}
use Rattle.case_tree.proofs.Walk.{yes}
use Rattle.case_tree.proofs.Walked.{HasWalked-same, HasWalked-start, HasWalked-split, HasWalked-leaf, HasWalked-unclosed, HasWalked-wrong, HasWalked-closed, HasWalked-open}
use Rattle.case_tree.proofs.checker.walk.Goals as goal
use Rattle.case_tree.proofs.checker.walk.Goals.{in-Split, in-Leaf, in-Unclosed}

pub loop-at-init : goal.loop-at-init
loop-at-init c = record {
  vars = c.requires.vars;
  walked = rw c.requires.at_root (HasWalked-start c.args.clauses.now c.args.nodes.now c.requires.one_tree);
}

pub returns-then-not-is_right-clause-verdict : goal.returns-then-not-is_right-clause-verdict
returns-then-not-is_right-clause-verdict c =
    HasWalked-wrong c.args.clauses.now c.args.nodes.now c.loop-at.at c.loop-at.trail.path c.loop-at.leaves c.loop-at.is_open _ c.loop-at-test.true c.loop-at.invariant.walked c.requires.one_tree
    (iff_false c.is_right.ensures.right c.if-not-is_right.true)

pub loop-at-preserved : goal.loop-at-preserved
loop-at-preserved c =
    let walked = c.loop-at.invariant.walked in
    let in_range = c.loop-at-test.true in
    let here = c.is_right.ensures.right.0 c.if-not-is_right.false in
    let same_vars : c.is_right.new.trail.vars ≡ c.loop-at.trail.vars = ap (λ (way : Way). way.vars) c.is_right.ensures.trail in
    let same_path : c.is_right.new.trail.path ≡ c.loop-at.trail.path = ap (λ (way : Way). way.path) c.is_right.ensures.trail in
    elim c.match-node.branch [
      | in-Split w ↦ record {
        vars = ap (λ (way : Way). way.vars) w.trail-is ∙ w.push.ensures.vars ∙ same_vars ∙ c.loop-at.invariant.vars;
        walked =
            HasWalked-same _ _ _ _ _ _ _ _ _ (HasWalked-split _ _ _ _ _ _ _ in_range walked _ w.in-Split.is here)
            (ap (λ (way : Way). way.path) w.trail-is ∙ w.push.ensures.path ∙ ap (λ (path : List Literal). yes w.in-Split.var ∷ path) same_path) w.leaves-is w.is_open-is;
      }
      | in-Leaf w ↦ record {
        vars = ap (λ (way : Way). way.vars) w.trail-is ∙ w.advance.ensures.vars ∙ same_vars ∙ c.loop-at.invariant.vars;
        walked =
            HasWalked-same _ _ _ _ _ _ _ _ _ (HasWalked-leaf _ _ _ _ _ _ _ in_range walked _ w.in-Leaf.is here)
            (ap (λ (way : Way). way.path) w.trail-is ∙ w.advance.ensures.path ∙ ap next_path same_path) w.leaves-is w.is_open-is;
      }
      | in-Unclosed w ↦ record {
        vars = ap (λ (way : Way). way.vars) w.trail-is ∙ w.advance-in-Unclosed.ensures.vars ∙ same_vars ∙ c.loop-at.invariant.vars;
        walked =
            HasWalked-same _ _ _ _ _ _ _ _ _ (HasWalked-unclosed _ _ _ _ _ _ _ in_range walked w.in-Unclosed.is here)
            (ap (λ (way : Way). way.path) w.trail-is ∙ w.advance-in-Unclosed.ensures.path ∙ ap next_path same_path) w.leaves-is w.is_open-is;
      }
    ]

pub returns-then-is_open-clause-verdict : goal.returns-then-is_open-clause-verdict
returns-then-is_open-clause-verdict c =
    HasWalked-open _ _ _ _ _ c.requires.one_tree c.loop-at-test.false (rw c.if-is_open.true at c.loop-at.invariant.walked)

pub returns-else-is_open-clause-verdict : goal.returns-else-is_open-clause-verdict
returns-else-is_open-clause-verdict c =
    HasWalked-closed _ _ _ _ _ c.requires.one_tree c.loop-at-test.false (rw c.if-is_open.false at c.loop-at.invariant.walked)
