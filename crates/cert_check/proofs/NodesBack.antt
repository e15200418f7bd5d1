-- Nodes of right trees have names, and their numbers come back from these.
use Rattle.std.proofs.Common.{◌≡◌, ℕ, zero, suc, ◌+◌, ◌-◌, ◌<◌, true, false, List, [], ◌∷◌, length, Option, Some, None, refl, sym, ap, ◌∙◌, subst, arith}
use Rattle.std.specs.Prelude.{map, slice_get, All, IsSome, IsSomeAnd, MatchOption}
use Rattle.std.specs.Option.{option_map, option_and_then}
use Rattle.std.specs.List.{Any, AllZip, AllByRecursion}
use Rattle.std.proofs.lemmas.List.Elements.{All-from_recursion, recursion_from_All}
use Rattle.std.proofs.lemmas.Slice.Zip.{AllZip-left}
use Rattle.case_tree.specs.CaseTree.{CaseTree, ClauseSet, FollowFrom, IsIn, Place, preorder, places, IsRight, IsRightAt, value_on, var_count}
use Rattle.case_tree.specs.declared.clauses.Literal.{Literal}
use Rattle.case_tree.specs.declared.clauses.VarCell.{VarCell}
use Rattle.case_tree.specs.declared.tree.Node.{Node}
use Rattle.case_tree.specs.declared.tree.Node.TheVariants as nodes
use Rattle.case_tree.specs.declared.tree.Reason.{Reason}
use Rattle.case_tree.specs.declared.tree.Reason.TheVariants as reasons
use Rattle.case_tree.proofs.Cells.{ends_within}
use Rattle.case_tree.proofs.Lists.{value_of}
use Rattle.cert_text.specs.Canonical.{node_lines}
use Rattle.cert_text.specs.declared.names.CellName.{CellName}
use Rattle.cert_text.specs.declared.names.VarName.{VarName}
use Rattle.cert_text.specs.declared.names.ReasonName.{ReasonName}
use Rattle.cert_text.specs.declared.names.ReasonName.TheVariants.{Clause, Two, NoneOf}
use Rattle.cert_text.specs.declared.names.NodeName.{NodeName}
use Rattle.cert_text.specs.declared.names.NodeName.TheVariants.{Split, Leaf, Open}
use Rattle.cert_check.specs.Made.{AreNamed, both, named_node, named_reason}
use Rattle.cert_check.specs.Names.{Names, var_number, cell_number}
use Rattle.cert_check.specs.Nodes.{node_of, reason_of}
use Rattle.cert_check.specs.Shown.{TreeShows, nodes_of}
use Rattle.cert_check.proofs.Fitting.{HasName}
use Rattle.cert_check.proofs.OneTrees.{place_node, nodes_at_places}

-- the names are those of the variables and cells of a clause set, each its own
pub record AreNamesOf (set : ClauseSet) (names : Names) : Type 0 where
  pub follow : FollowFrom 0 set.cells
  pub vars : length names.vars ≡ var_count set.cells
  pub cells : AllZip HasName set.cells names.cells
  pub var_back : (v : ℕ) (name : VarName) → slice_get names.vars v ≡ Some name → var_number names name ≡ v
  pub cell_back : (at : ℕ) (name : CellName) → slice_get names.cells at ≡ Some (Some name) → cell_number names name ≡ at

there_at : {X : Type 0} (xs : List X) (i : ℕ) → i < length xs → (x : X) × (slice_get xs i ≡ Some x)
there_at [] i within = absurd (omega arith)
there_at (x ∷ xs) zero within = (x, refl)
there_at (x ∷ xs) (suc i) within = there_at xs i (omega arith)

module _ (set : ClauseSet) (names : Names) (are : AreNamesOf set names) where
  -- ---- names of right nodes

  var_within : (v w : ℕ) → Any (λ (cell : VarCell). IsIn cell v × IsIn cell w) set.cells → (v < length names.vars) × (w < length names.vars)
  var_within v w (k, cell, within, is, both_in) =
      let ends = ends_within 0 set.cells k cell are.follow within in
      let firsts = ap (λ (c : VarCell). c.first) is in
      let counts = ap (λ (c : VarCell). c.count) is in
      let fit = are.vars in
      let one = both_in.0.1 in
      let two = both_in.1.1 in
      (omega arith, omega arith)

  cell_named : (at : ℕ) (cell : VarCell) → slice_get set.cells at ≡ Some cell → cell.demanded ≡ true → (name : CellName) × (slice_get names.cells at ≡ Some (Some name))
  cell_named at cell there demanded =
      let beside : IsSomeAnd (slice_get names.cells at) (HasName cell) = subst (λ (o : Option VarCell). MatchOption o (Unit {0}) (λ c. IsSomeAnd (slice_get names.cells at) (HasName c))) there (AllZip-left HasName set.cells names.cells are.cells at) in
      let found = value_of (slice_get names.cells at) (HasName cell) beside in
      let its = found.2 demanded in
      (its.0, found.1 ∙ ap (λ (name : Option CellName). Some name) its.1)

  reason_named : (path : List Literal) (reason : Reason) → IsRight set path (nodes.Leaf reason) → IsSome (named_reason names reason)
  reason_named path (reasons.Clause at) right = refl
  reason_named path (reasons.Two v w) right =
      let within = var_within v w right.0.1 in
      let one = there_at names.vars v within.0 in
      let other = there_at names.vars w within.1 in
      subst (λ (o : Option VarName). IsSome (both (λ a b. Two a b) o (slice_get names.vars w))) (sym one.1)
      (subst (λ (o : Option VarName). IsSome (both (λ a b. Two a b) (Some one.0) o)) (sym other.1) refl)
  reason_named path (reasons.NoneOf at) right =
      let found = value_of (slice_get set.cells at) (λ (cell : VarCell). (cell.demanded ≡ true) × ((v : ℕ) → IsIn cell v → value_on path v ≡ Some false)) right.0 in
      let name = cell_named at found.0 found.1 found.2.0 in
      let is = name.1 in
      rw is refl

  leaf_named : (reason : Reason) (found : Option ReasonName) → named_reason names reason ≡ found → IsSome found → IsSome (named_node names (nodes.Leaf reason))
  leaf_named reason None is some = absurd cc
  leaf_named reason (Some name) is some = rw is refl

  node_named : (path : List Literal) (node : Node) → IsRight set path node → IsSome (named_node names node)
  node_named path (nodes.Split v) right =
      let fit = are.vars in
      let it = there_at names.vars v (let less = right.0 in omega arith) in
      let is = it.1 in
      rw is refl
  node_named path (nodes.Leaf reason) right = leaf_named reason (named_reason names reason) refl (reason_named path reason right)
  node_named path nodes.Unclosed right = refl

  places_named : (them : List Place) → AllByRecursion (IsRightAt set) them → AllByRecursion (λ node. IsSome (named_node names node)) (map place_node them)
  places_named [] right = tt
  places_named (place ∷ them) right = (node_named place.path place.node right.0, places_named them right.1)

  pub tree_named : (tree : CaseTree) (listed : List Node) → preorder tree ≡ listed → All (IsRightAt set) (places tree) → All (λ node. IsSome (named_node names node)) listed
  tree_named tree listed is right =
      All-from_recursion (λ node. IsSome (named_node names node)) listed
      (subst (λ (all : List Node). AllByRecursion (λ node. IsSome (named_node names node)) all) (nodes_at_places tree ∙ is) (places_named (places tree) (recursion_from_All (IsRightAt set) (places tree) right)))

  -- ---- and back

  two_back : (v w : ℕ) (name : ReasonName) (one other : Option VarName) → slice_get names.vars v ≡ one → slice_get names.vars w ≡ other → both (λ a b. Two a b) one other ≡ Some name → reason_of names name ≡ reasons.Two v w
  two_back v w name None other is_one is_other is = absurd cc
  two_back v w name (Some one) None is_one is_other is = absurd cc
  two_back v w name (Some one) (Some other) is_one is_other is =
      let name-is : Two one other ≡ name = cc in
      ap (reason_of names) (sym name-is) ∙ ap (λ n. reasons.Two n (var_number names other)) (are.var_back v one is_one) ∙ ap (λ n. reasons.Two v n) (are.var_back w other is_other)

  none_back : (at : ℕ) (name : ReasonName) (found : Option (Option CellName)) → slice_get names.cells at ≡ found → option_map (λ cell. NoneOf cell) (option_and_then (λ (cell : Option CellName). cell) found) ≡ Some name → reason_of names name ≡ reasons.NoneOf at
  none_back at name None is_found is = absurd cc
  none_back at name (Some None) is_found is = absurd cc
  none_back at name (Some (Some cell)) is_found is =
      let name-is : NoneOf cell ≡ name = cc in
      ap (reason_of names) (sym name-is) ∙ ap (λ n. reasons.NoneOf n) (are.cell_back at cell is_found)

  reason_back : (reason : Reason) (name : ReasonName) → named_reason names reason ≡ Some name → reason_of names name ≡ reason
  reason_back (reasons.Clause at) name is =
      let name-is : Clause (at + 1) ≡ name = cc in
      let number : at + 1 - 1 ≡ at = omega arith in
      ap (reason_of names) (sym name-is) ∙ ap (λ n. reasons.Clause n) number
  reason_back (reasons.Two v w) name is = two_back v w name (slice_get names.vars v) (slice_get names.vars w) refl refl is
  reason_back (reasons.NoneOf at) name is = none_back at name (slice_get names.cells at) refl is

  split_back : (v : ℕ) (name : NodeName) (found : Option VarName) → slice_get names.vars v ≡ found → option_map (λ var. Split var) found ≡ Some name → node_of names name ≡ nodes.Split v
  split_back v name None is_found is = absurd cc
  split_back v name (Some var) is_found is =
      let name-is : Split var ≡ name = cc in
      ap (node_of names) (sym name-is) ∙ ap (λ n. nodes.Split n) (are.var_back v var is_found)

  leaf_back : (reason : Reason) (name : NodeName) (found : Option ReasonName) → named_reason names reason ≡ found → option_map (λ named. Leaf named) found ≡ Some name → node_of names name ≡ nodes.Leaf reason
  leaf_back reason name None is_found is = absurd cc
  leaf_back reason name (Some named) is_found is =
      let name-is : Leaf named ≡ name = cc in
      ap (node_of names) (sym name-is) ∙ ap (λ r. nodes.Leaf r) (reason_back reason named is_found)

  node_back : (node : Node) (name : NodeName) → named_node names node ≡ Some name → node_of names name ≡ node
  node_back (nodes.Split v) name is = split_back v name (slice_get names.vars v) refl is
  node_back (nodes.Leaf reason) name is = leaf_back reason name (named_reason names reason) refl is
  node_back nodes.Unclosed name is = let name-is : Open ≡ name = cc in ap (node_of names) (sym name-is)

  pub nodes_back : (tree : List Node) (named : List NodeName) (line : ℕ) → AreNamed names tree named → nodes_of names (node_lines line named) ≡ tree
  nodes_back [] [] line named = refl
  nodes_back [] (name ∷ rest) line named = absurd named
  nodes_back (node ∷ tree) [] line named = absurd named
  nodes_back (node ∷ tree) (name ∷ rest) line named =
      ap (λ (n : Node). n ∷ nodes_of names (node_lines (line + 1) rest)) (node_back node name named.0) ∙ ap (λ (ns : List Node). node ∷ ns) (nodes_back tree rest (line + 1) named.1)

  -- so they show the same
  pub shown_by : (budget : Option ℕ) (tree : List Node) (named : List NodeName) → AreNamed names tree named → TreeShows set budget tree → TreeShows set budget (nodes_of names (node_lines 3 named))
  shown_by budget tree named are_named shows = subst (TreeShows set budget) (sym (nodes_back tree named 3 are_named)) shows
