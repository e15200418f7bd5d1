use Rattle.std.proofs.Common.{◌≡◌, ℕ, suc, ◌+◌, ◌-◌, ◌*◌, ◌<◌, ◌≤◌, List, [], ◌∷◌, ◌++◌, length, replicate, refl, ap, ◌∙◌, subst, arith}
use Rattle.case_tree.specs.declared.tree.Node.{Node}
use Rattle.case_tree.specs.declared.tree.Node.TheVariants.{Leaf, Unclosed}
use Rattle.case_tree.specs.CaseTree.{var_count}
use Rattle.case_tree.specs.Walk.{Way, next_path}
use Rattle.case_tree.proofs.Walk.{waiting, yes}
use Rattle.case_search.specs.Enough.{choices}
use Rattle.case_search.specs.Guards.{IsReady}
use Rattle.case_search.specs.Model.{values_of}
use Rattle.case_search.specs.Places.{list_of}
use Rattle.case_search.specs.Step.{IsStep}
use Rattle.case_search.proofs.Grown.{IsAt-start, IsAt-split, IsAt-next, IsSpent, IsWritten-leaf, is_refuted, is_spent, length-next_path, pending_bound, quiet_above, waiting-next}
use Rattle.case_search.proofs.Guarded.{apart_next, guarded_next}
use Rattle.case_search.proofs.Models.{is_model}
use Rattle.case_search.proofs.search.walk_on.Goals as goal
use Rattle.case_search.proofs.search.walk_on.Goals.{In_ok-with_open-in-Leaf}

pub walk-init : goal.walk-init
walk-init c = record {
  at = rw (c.new-nodes.ensures.items, c.requires.at_root) (IsAt-start c.args.clauses.now c.vars-vars.ensures.well_formed.cells_follow);
  vars = c.requires.vars;
  counted = c.requires.counted;
  guarded = rw c.requires.at_root c.requires.guarded;
  apart = rw c.requires.at_root tt;
  pending = rw c.requires.at_root refl;
  below = c.requires.some;
  within = rw c.requires.at_root (omega arith);
}

pub returns-in-Model : goal.returns-in-Model
returns-in-Model c =
    let step = subst (IsStep c.args.clauses.now c.walk.trail.path) c.in-Model.is c.in_ok-next_step.ensures.step in
    is_model c.args.clauses.now c.walk.trail.path c.in_ok-values-in-Model.field-0.items c.vars-vars.result c.vars-vars.ensures.well_formed step c.requires.one_free
    (c.in_ok-values-in-Model.ensures ∙ ap (λ (way : Way). values_of way.path c.vars-vars.result) c.next_step.ensures.trail) c.vars-vars.ensures.count

pub overflow_add-pending : goal.overflow_add-pending
overflow_add-pending c =
    omega (arith, c.walk.invariant.pending, pending_bound _ _ _ _ _ c.walk.invariant.at, c.walk.nodes.ok.0, c.walk.nodes.small)

pub walk-preserved-in-Split : goal.walk-preserved-in-Split
walk-preserved-in-Split c =
    let v = c.in-Split.var in
    let walked = c.walk.invariant in
    let step = subst (IsStep c.args.clauses.now c.walk.trail.path) c.in-Split.is c.in_ok-next_step.ensures.step in
    let ready = subst (IsReady c.args.clauses.now (list_of c.next_step.new.guards) c.walk.trail.path) c.in-Split.is c.in_ok-next_step.ensures.guarded in
    let same_vars : c.next_step.new.trail.vars ≡ c.walk.trail.vars = ap (λ (way : Way). way.vars) c.next_step.ensures.trail in
    let path_is : c.push-in-Split.new.self.path ≡ yes v ∷ c.walk.trail.path = c.push-in-Split.ensures.path ∙ ap (λ (way : Way). yes v ∷ way.path) c.next_step.ensures.trail in
    let vars_are = c.push-in-Split.ensures.vars ∙ same_vars ∙ walked.vars in
    let room : suc (length c.walk.trail.path) ≤ var_count c.args.clauses.now.cells = omega (arith, ap length path_is, c.push-in-Split.ensures.within, vars_are) in
    record {
      at = rw (c.in_ok-push-in-Split.ensures.items, path_is) (IsAt-split _ _ _ _ _ walked.at v step.0 step.1 step.2 room);
      vars = vars_are;
      counted = c.next_step.ensures.counted ∙ walked.counted;
      guarded = rw path_is ready;
      apart = rw path_is (step.1.1, walked.apart);
      pending = rw path_is (omega (arith, walked.pending));
      below = walked.below;
      within = c.push-in-Split.ensures.within;
    }

pub tree_of-requires : goal.tree_of-requires
tree_of-requires c =
    let written = IsWritten-leaf _ _ _ _ _ c.walk.invariant.at c.in-Leaf.reason (subst (IsStep c.args.clauses.now c.walk.trail.path) c.in-Leaf.is c.in_ok-next_step.ensures.step) in
    rw c.in_ok-push-in-Leaf.ensures.items (is_refuted _ _ _ _ _ (omega (arith, c.walk.invariant.pending, c.if-pending-eq0.true)) written).0

pub returns-then-pending-eq0 : goal.returns-then-pending-eq0
returns-then-pending-eq0 c =
    let written = IsWritten-leaf _ _ _ _ _ c.walk.invariant.at c.in-Leaf.reason (subst (IsStep c.args.clauses.now c.walk.trail.path) c.in-Leaf.is c.in_ok-next_step.ensures.step) in
    let refuted = is_refuted _ _ _ _ _ (omega (arith, c.walk.invariant.pending, c.if-pending-eq0.true)) written in
    let tree_is = c.tree_of.ensures ∙ c.in_ok-push-in-Leaf.ensures.items in
    rw tree_is (refuted.1, omega (arith, written.leaves_are, c.walk.invariant.below))

-- the tree with the subtrees that were not begun
spent : (c : In_ok-with_open-in-Leaf) → IsSpent c.args.clauses.now c.in_ok-with_open-in-Leaf.field-0.items (c.walk.leaves + 1) (choices c.args.clauses.now.cells * (var_count c.args.clauses.now.cells + 1))
spent c =
    let written = IsWritten-leaf _ _ _ _ _ c.walk.invariant.at c.in-Leaf.reason (subst (IsStep c.args.clauses.now c.walk.trail.path) c.in-Leaf.is c.in_ok-next_step.ensures.step) in
    let waits : c.walk.pending - 1 ≡ length (waiting c.walk.trail.path) = omega (arith, c.walk.invariant.pending) in
    let some : 0 < length (waiting c.walk.trail.path) = omega (arith, c.walk.invariant.pending, c.if-pending-eq0.false) in
    let nodes_are : c.in_ok-with_open-in-Leaf.field-0.items ≡ (c.walk.nodes.items ++ Leaf c.in-Leaf.reason ∷ []) ++ replicate (length (waiting c.walk.trail.path)) Unclosed =
    c.in_ok-with_open-in-Leaf.ensures ∙ ap (λ (xs : List Node). xs ++ replicate (c.walk.pending - 1) Unclosed) c.in_ok-push-in-Leaf.ensures.items
    ∙ ap (λ (n : ℕ). (c.walk.nodes.items ++ Leaf c.in-Leaf.reason ∷ []) ++ replicate n Unclosed) waits
    in
    rw nodes_are (is_spent _ _ _ _ _ some written)

pub tree_of-requires-then-leaves-budget : goal.tree_of-requires-then-leaves-budget
tree_of-requires-then-leaves-budget c = (spent (goal.at.tree_of-requires-then-leaves-budget c).In_ok-with_open-in-Leaf).one

pub returns-then-leaves-budget : goal.returns-then-leaves-budget
returns-then-leaves-budget c =
    let told = spent (goal.at.returns-then-leaves-budget c).In_ok-with_open-in-Leaf in
    rw c.tree_of-then-leaves-budget.ensures (told.partial, told.count ∙ c.if-leaves-budget.true, omega (arith, told.below, c.if-leaves-budget.true, c.requires.within))

pub walk-preserved : goal.walk-preserved
walk-preserved c =
    let walked = c.walk.invariant in
    let written = IsWritten-leaf _ _ _ _ _ walked.at c.in-Leaf.reason (subst (IsStep c.args.clauses.now c.walk.trail.path) c.in-Leaf.is c.in_ok-next_step.ensures.step) in
    let some : 0 < length (waiting c.walk.trail.path) = omega (arith, walked.pending, c.if-pending-eq0.false) in
    let same_vars : c.next_step.new.trail.vars ≡ c.walk.trail.vars = ap (λ (way : Way). way.vars) c.next_step.ensures.trail in
    let path_is : c.advance.new.trail.path ≡ next_path c.walk.trail.path = c.in_ok-advance-in-Leaf.ensures.path ∙ ap (λ (way : Way). next_path way.path) c.next_step.ensures.trail in
    let vars_are = c.advance.ensures.vars ∙ same_vars ∙ walked.vars in
    record {
      at = rw (c.in_ok-push-in-Leaf.ensures.items, path_is) (IsAt-next _ _ _ _ _ walked.at.quiet some written);
      vars = vars_are;
      counted = c.next_step.ensures.counted ∙ walked.counted;
      guarded = rw path_is (guarded_next c.args.clauses.now (list_of c.next_step.new.guards) c.walk.trail.path walked.apart (subst (IsReady c.args.clauses.now (list_of c.next_step.new.guards) c.walk.trail.path) c.in-Leaf.is c.in_ok-next_step.ensures.guarded));
      apart = rw path_is (apart_next c.walk.trail.path walked.apart);
      pending = rw path_is (omega (arith, waiting-next c.walk.trail.path some, walked.pending));
      below = omega (arith, walked.below, c.if-leaves-budget.false);
      within = rw path_is (omega (arith, length-next_path c.walk.trail.path, walked.within, vars_are, walked.vars));
    }

-- a split leaves the rest of the budget, and one variable fewer
smaller_by_split : (rest n vars old new : ℕ) → new ≡ suc old → new ≤ vars → rest * n + (vars - new) < rest * n + (vars - old)
smaller_by_split rest n vars old new longer within = omega arith

-- a leaf outweighs all variables
smaller_by_leaf : (budget leaves vars old new : ℕ) → leaves < budget → (budget - (leaves + 1)) * (vars + 1) + (vars - new) < (budget - leaves) * (vars + 1) + (vars - old)
smaller_by_leaf budget leaves vars old new below =
    let rest : budget - leaves ≡ suc (budget - (leaves + 1)) = omega arith in
    rw rest (omega arith)

pub next_step-requires : goal.next_step-requires
next_step-requires c = record {
  vars = c.walk.invariant.vars;
  counted = c.walk.invariant.counted;
  guarded = c.walk.invariant.guarded;
  quiet = quiet_above c.args.clauses.now c.walk.trail.path c.walk.invariant.at.quiet;
}

pub walk-smaller : goal.walk-smaller
walk-smaller c =
    smaller_by_leaf c.args.budget c.walk.leaves (var_count c.args.clauses.now.cells) (length c.walk.trail.path) (length c.advance.new.trail.path) c.walk.invariant.below

pub walk-smaller-in-Split : goal.walk-smaller-in-Split
walk-smaller-in-Split c =
    let vars = var_count c.args.clauses.now.cells in
    let same_vars : c.next_step.new.trail.vars ≡ c.walk.trail.vars = ap (λ (way : Way). way.vars) c.next_step.ensures.trail in
    let path_is : c.push-in-Split.new.self.path ≡ yes c.in-Split.var ∷ c.walk.trail.path = c.push-in-Split.ensures.path ∙ ap (λ (way : Way). yes c.in-Split.var ∷ way.path) c.next_step.ensures.trail in
    smaller_by_split (c.args.budget - c.walk.leaves) (vars + 1) vars (length c.walk.trail.path) _ (ap length path_is)
    (subst (λ (n : ℕ). length c.push-in-Split.new.self.path ≤ n) (c.push-in-Split.ensures.vars ∙ same_vars ∙ c.walk.invariant.vars) c.push-in-Split.ensures.within)
