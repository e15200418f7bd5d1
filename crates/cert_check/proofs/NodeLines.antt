-- The lines of a tree, and what the checker of trees answers.
use Rattle.std.proofs.Common.{inl, inr, ◌≡◌, ◌≢◌, ℕ, zero, suc, ◌+◌, ◌++◌, ◌<◌, ◌≤◌, Bool, true, false, List, [], ◌∷◌, length, get_or, take, Option, Some, None, refl, sym, ap, ◌∙◌, subst, arith}
use Rattle.std.specs.Prelude.{map, slice_get, All}
use Rattle.std.specs.List.{AllByRecursion, Any, position_or_len}
use Rattle.std.proofs.lemmas.List.Elements.{recursion_from_All, All-from_recursion}
use Rattle.std.proofs.lemmas.List.Sums.{fails_before_first, passes_at_first}
use Rattle.std.proofs.lemmas.Bool.{cases_lt}
use Rattle.std.proofs.lemmas.List.{get_or_default, length-map, map_more, take_all}
use Rattle.std.proofs.Math.ListN.{get_or-map}
use Rattle.std.proofs.lemmas.Option.{slice_get_within}
use Rattle.case_tree.specs.CaseTree.{CaseTree, ClauseSet, Place, preorder, places, IsRightAt, Refutes, IsPartial, IsFirstWrong, leaf_count}
use Rattle.case_tree.specs.Verdict.{IsVerdict}
use Rattle.case_tree.specs.declared.checker.Checked.{Checked}
use Rattle.case_tree.specs.declared.checker.Checked.TheVariants as checked
use Rattle.case_tree.specs.declared.tree.Node.{Node}
use Rattle.case_tree.specs.declared.tree.Node.TheVariants.{Unclosed}
use Rattle.case_tree.proofs.Lists.{Any-none, value_of}
use Rattle.cert_text.specs.declared.cert.NodeLine.{NodeLine}
use Rattle.cert_text.specs.declared.names.NodeName.{NodeName}
use Rattle.cert_text.specs.declared.names.NodeName.TheVariants.{Split, Leaf, Open}
use Rattle.cert_check.specs.Names.{Names}
use Rattle.cert_check.specs.Nodes.{node_of, is_open}
use Rattle.cert_text.specs.TreeNodes.{lines_of as placed_lines}
use Rattle.cert_text.specs.declared.cert.TreeLines.{TreeLines}
use Rattle.cert_text.specs.declared.tree_nodes.NodePlace.{NodePlace}
use Rattle.cert_check.specs.Shown.{Asks, nodes_of}
use Rattle.cert_check.specs.Verdict.{Line, End, Passes, NodesPass, BudgetLine, TreePasses}
use Rattle.cert_check.specs.declared.verdict.CertVerdict.{CertVerdict}
use Rattle.cert_check.specs.declared.verdict.CertVerdict.TheVariants.{Holds, Fails}
use Rattle.cert_check.proofs.OneTrees.{place_node, nodes_at_places}

abbrev pub line_open : NodeLine → Bool
line_open line = is_open line.node

-- ---- open nodes

pub open_is : (names : Names) (node : NodeName) → is_open node ≡ true → node_of names node ≡ Unclosed
open_is names (Split v) is = absurd cc
open_is names (Leaf reason) is = absurd cc
open_is names Open is = refl

pub open_only : (names : Names) (node : NodeName) → is_open node ≡ false → node_of names node ≢ Unclosed
open_only names (Split v) is same = cc
open_only names (Leaf reason) is same = cc
open_only names Open is same = absurd cc

-- ---- one line after the other

line_passes : (line : ℕ) (claim : Type 0) (rest : CertVerdict → Type 0) (verdict : CertVerdict) → claim → rest verdict → Line line claim rest verdict
line_passes line claim rest Holds is behind = (is, behind)
line_passes line claim rest (Fails at) is behind = inr (is, behind)

module _ (set : ClauseSet) (budget : Option ℕ) (rest : CertVerdict → Type 0) where
  -- where each node passes, the rest decides
  pub all_pass : (lines : List NodeLine) (them : List Place) (verdict : CertVerdict) → AllByRecursion (Passes set budget) them → rest verdict → NodesPass set budget lines them rest verdict
  all_pass [] them verdict pass behind = behind
  all_pass (line ∷ lines) [] verdict pass behind = behind
  all_pass (line ∷ lines) (place ∷ them) verdict pass behind =
      line_passes line.line (Passes set budget place) (NodesPass set budget lines them rest) verdict pass.0 (all_pass lines them verdict pass.1 behind)

  -- the first that doesn't pass
  pub first_fails : (at : ℕ) (lines : List NodeLine) (them : List Place) (d : NodeLine) (place : Place) → at < length lines → AllByRecursion (Passes set budget) (take at them) → slice_get them at ≡ Some place → ¬ Passes set budget place
      → NodesPass set budget lines them rest (Fails (get_or lines at d).line)
  first_fails at [] them d place within pass there fails = absurd (omega arith)
  first_fails at (line ∷ lines) [] d place within pass there fails = absurd cc
  first_fails zero (line ∷ lines) (first ∷ them) d place within pass there fails =
      let same : first ≡ place = cc in
      inl (subst (λ (p : Place). ¬ Passes set budget p) (sym same) fails, refl)
  first_fails (suc at) (line ∷ lines) (first ∷ them) d place within pass there fails = inr (pass.0, first_fails at lines them d place (omega arith) pass.1 there fails)

  -- and back: of a certificate that holds each node passes
  pub pass_back : (lines : List NodeLine) (them : List Place) → length lines ≡ length them → NodesPass set budget lines them rest Holds → AllByRecursion (Passes set budget) them × rest Holds
  pass_back [] [] long holds = (tt, holds)
  pass_back [] (place ∷ them) long holds = absurd (omega arith)
  pass_back (line ∷ lines) [] long holds = absurd (omega arith)
  pass_back (line ∷ lines) (place ∷ them) long holds = let behind = pass_back lines them (omega arith) holds.1 in ((holds.0, behind.0), behind.1)

-- ---- places and lines

-- the lines are as many as the places
pub as_many : (names : Names) (lines : List NodeLine) (tree : CaseTree) → preorder tree ≡ nodes_of names lines → length lines ≡ length (places tree)
as_many names lines tree listed =
    let nodes = nodes_at_places tree in
    omega (arith, length-map (places tree) place_node, ap length nodes, ap length listed, length-map lines (λ (line : NodeLine). node_of names line.node))

-- right places that aren't open pass
abbrev pub AreClosed : List Node → Type 0
AreClosed nodes = AllByRecursion (λ (node : Node). node ≢ Unclosed) nodes

pub closed_pass : (set : ClauseSet) (n : ℕ) (nodes : List Node) (them : List Place) → map place_node them ≡ nodes → AllByRecursion (IsRightAt set) (take n them) → AreClosed (take n nodes)
    → AllByRecursion (Passes set None) (take n them)
closed_pass set zero nodes them same right closed = tt
closed_pass set (suc n) nodes [] same right closed = tt
closed_pass set (suc n) [] (place ∷ them) same right closed = absurd cc
closed_pass set (suc n) (node ∷ nodes) (place ∷ them) same right closed =
    let here : place.node ≡ node = cc in
    let behind : map place_node them ≡ nodes = cc in
    (record { right = right.0; closed = λ is. closed.0 (sym here ∙ is) }, closed_pass set n nodes them behind right.1 closed.1)

-- nodes of lines that aren't open
pub not_open_front : (names : Names) (n : ℕ) (lines : List NodeLine) (d : NodeLine) → ((k : ℕ) → k < n → k < length lines → line_open (get_or lines k d) ≡ false) → AreClosed (take n (nodes_of names lines))
not_open_front names zero lines d closed = tt
not_open_front names (suc n) [] d closed = tt
not_open_front names (suc n) (line ∷ lines) d closed =
    (open_only names line.node (closed 0 (omega arith) (omega arith)), not_open_front names n lines d (λ k less within. closed (suc k) (omega arith) (omega arith)))

-- with a budget right places pass
pub spent_pass : (set : ClauseSet) (budget : ℕ) (them : List Place) → AllByRecursion (IsRightAt set) them → AllByRecursion (Passes set (Some budget)) them
spent_pass set budget [] right = tt
spent_pass set budget (place ∷ them) right = (record { right = right.0; closed = tt }, spent_pass set budget them right.1)

-- a place of an open line doesn't pass
pub open_fails : (set : ClauseSet) (names : Names) (at : ℕ) (lines : List NodeLine) (them : List Place) (d : NodeLine) (place : Place) → map place_node them ≡ nodes_of names lines → at < length lines → slice_get them at ≡ Some place
    → line_open (get_or lines at d) ≡ true → ¬ Passes set None place
open_fails set names at [] them d place same within there is passes = absurd (omega arith)
open_fails set names at (line ∷ lines) [] d place same within there is passes = absurd cc
open_fails set names zero (line ∷ lines) (first ∷ them) d place same within there is passes =
    let node : place.node ≡ node_of names line.node = cc in
    passes.closed (node ∙ open_is names line.node is)
open_fails set names (suc at) (line ∷ lines) (first ∷ them) d place same within there is passes =
    let behind : map place_node them ≡ nodes_of names lines = cc in
    open_fails set names at lines them d place behind (omega arith) there is passes

-- there is a place at each number below the number of places
pub place_at : (at : ℕ) (them : List Place) → at < length them → (place : Place) × (slice_get them at ≡ Some place)
place_at at [] within = absurd (omega arith)
place_at zero (place ∷ them) within = (place, refl)
place_at (suc at) (place ∷ them) within = place_at at them (omega arith)

-- a front of places all of which are right
pub front_right : (set : ClauseSet) (n : ℕ) (them : List Place) → AllByRecursion (IsRightAt set) them → AllByRecursion (IsRightAt set) (take n them)
front_right set zero them right = tt
front_right set (suc n) [] right = tt
front_right set (suc n) (place ∷ them) right = (right.0, front_right set n them right.1)

pub shorter_front : (set : ClauseSet) (n m : ℕ) (them : List Place) → n ≤ m → AllByRecursion (IsRightAt set) (take m them) → AllByRecursion (IsRightAt set) (take n them)
shorter_front set zero m them less right = tt
shorter_front set (suc n) zero them less right = absurd (omega arith)
shorter_front set (suc n) (suc m) [] less right = tt
shorter_front set (suc n) (suc m) (place ∷ them) less right = (right.0, shorter_front set n m them (omega arith) right.1)

front_closed : (n : ℕ) (nodes : List Node) → AreClosed nodes → AreClosed (take n nodes)
front_closed zero nodes closed = tt
front_closed (suc n) [] closed = tt
front_closed (suc n) (node ∷ nodes) closed = (closed.0, front_closed n nodes closed.1)

-- some line is open where some node is
pub some_open : (names : Names) (lines : List NodeLine) → Any (λ (node : Node). node ≡ Unclosed) (nodes_of names lines) → position_or_len line_open lines < length lines
some_open names lines some = elim (cases_lt (position_or_len line_open lines) (length lines)) [
  | inl less ↦ less
  | inr past ↦ absurd (
      let d : NodeLine = record { line = 0; node = Open } in
      let nodes = nodes_of names lines in
      let long = length-map lines (λ (line : NodeLine). node_of names line.node) in
      let closed : AreClosed (take (length nodes) nodes) = not_open_front names (length nodes) lines d (λ k less within. fails_before_first line_open lines k d (omega arith)) in
      Any-none (λ (node : Node). node ≡ Unclosed) nodes (All-from_recursion (λ (node : Node). node ≢ Unclosed) nodes (subst AreClosed (take_all (length nodes) nodes (omega arith)) closed)) some)
]

-- ---- what the checker of trees answers

pub verdict_by : (set : ClauseSet) (nodes : List Node) (answer : Checked) → ((leaves : ℕ) → answer ≡ checked.Closed leaves → Refutes set nodes × (leaf_count nodes ≡ leaves)) → ((leaves : ℕ) → answer ≡ checked.Partial leaves → IsPartial set nodes × (leaf_count nodes ≡ leaves)) → ((at : ℕ) → answer ≡ checked.Wrong at → IsFirstWrong set nodes at)
    → IsVerdict set nodes answer
verdict_by set nodes (checked.Closed leaves) closed partial wrong = closed leaves refl
verdict_by set nodes (checked.Partial leaves) closed partial wrong = partial leaves refl
verdict_by set nodes (checked.Wrong at) closed partial wrong = wrong at refl

abbrev pub lines_of : ℕ → Option ℕ → List NodeLine → TreeLines
lines_of line budget nodes = record { line = line; budget = budget; nodes = nodes }

abbrev pub asks_with : ClauseSet → Names → Asks
asks_with set names = record { set = set; names = names }

module _ (set : ClauseSet) (names : Names) (lines : List NodeLine) where
  abbrev nodes : List Node
  nodes = nodes_of names lines

  -- a place at each line
  there : (tree : CaseTree) → preorder tree ≡ nodes → (at : ℕ) → at < length lines → (place : Place) × (slice_get (places tree) at ≡ Some place)
  there tree listed at within = place_at at (places tree) (omega (arith, as_many names lines tree listed))

  same_nodes : (tree : CaseTree) → preorder tree ≡ nodes → map place_node (places tree) ≡ nodes
  same_nodes tree listed = nodes_at_places tree ∙ listed

  all_right : (tree : CaseTree) → All (IsRightAt set) (places tree) → AllByRecursion (IsRightAt set) (places tree)
  all_right tree right = recursion_from_All (IsRightAt set) (places tree) right

  -- ---- no case may be open

  pub closed_holds : (line : ℕ) → Refutes set nodes → TreePasses (asks_with set names) (lines_of line None lines) Holds
  closed_holds line refutes =
      let them = places refutes.tree in
      let n = length them in
      let right = front_right set n them (all_right refutes.tree refutes.right) in
      let closed = front_closed n nodes (recursion_from_All (λ (node : Node). node ≢ Unclosed) nodes refutes.closed) in
      let pass = closed_pass set n nodes them (same_nodes refutes.tree refutes.listed) right closed in
      record {
        tree = refutes.tree;
        listed = refutes.listed;
        passes = all_pass set None End lines them Holds (subst (AllByRecursion (Passes set None)) (take_all n them (omega arith)) pass) tt;
      }

  -- the first open node comes before any that isn't right
  pub open_first : (line at : ℕ) (d : NodeLine) (tree : CaseTree) → preorder tree ≡ nodes → at ≡ position_or_len line_open lines → at < length lines → AllByRecursion (IsRightAt set) (take at (places tree))
      → TreePasses (asks_with set names) (lines_of line None lines) (Fails (get_or lines at d).line)
  open_first line at d tree listed is within right =
      let them = places tree in
      let place = there tree listed at within in
      let closed = not_open_front names at lines d (λ k less inside. fails_before_first line_open lines k d (omega arith)) in
      let pass = closed_pass set at nodes them (same_nodes tree listed) right closed in
      let opens : line_open (get_or lines at d) ≡ true = subst (λ (k : ℕ). line_open (get_or lines k d) ≡ true) (sym is) (passes_at_first line_open lines d (omega arith)) in
      record {
        tree = tree;
        listed = listed;
        passes = first_fails set None End at lines them d place.0 within pass place.1 (open_fails set names at lines them d place.0 (same_nodes tree listed) within place.1 opens);
      }

  -- a node that isn't right comes before any that is open
  pub wrong_first : (line at : ℕ) (d : NodeLine) → IsFirstWrong set nodes at → at ≤ position_or_len line_open lines → at < length lines → TreePasses (asks_with set names) (lines_of line None lines) (Fails (get_or lines at d).line)
  wrong_first line at d wrong early within =
      let tree = wrong.tree in
      let them = places tree in
      let place = value_of (slice_get them at) (λ (p : Place). ¬ IsRightAt set p) wrong.wrong in
      let closed = not_open_front names at lines d (λ k less inside. fails_before_first line_open lines k d (omega arith)) in
      let right = recursion_from_All (IsRightAt set) (take at them) wrong.right_before in
      let pass = closed_pass set at nodes them (same_nodes tree wrong.listed) right closed in
      record {
        tree = tree;
        listed = wrong.listed;
        passes = first_fails set None End at lines them d place.0 within pass place.1 (λ passes. place.2 passes.right);
      }

  -- the place of a node that isn't right is that of a line
  pub wrong_within : (at : ℕ) → IsFirstWrong set nodes at → at < length lines
  wrong_within at wrong =
      let place = value_of (slice_get (places wrong.tree) at) (λ (p : Place). ¬ IsRightAt set p) wrong.wrong in
      omega (arith, slice_get_within (places wrong.tree) at place.0 place.1, as_many names lines wrong.tree wrong.listed)

  pub open_before_wrong : (line at first : ℕ) (d : NodeLine) → IsFirstWrong set nodes at → first ≡ position_or_len line_open lines → first < at → TreePasses (asks_with set names) (lines_of line None lines) (Fails (get_or lines first d).line)
  open_before_wrong line at first d wrong is early =
      let within = wrong_within at wrong in
      open_first line first d wrong.tree wrong.listed is (omega arith) (shorter_front set first at (places wrong.tree) (omega arith) (recursion_from_All (IsRightAt set) (take at (places wrong.tree)) wrong.right_before))

  pub open_in_partial : (line first : ℕ) (d : NodeLine) → IsPartial set nodes → first ≡ position_or_len line_open lines → TreePasses (asks_with set names) (lines_of line None lines) (Fails (get_or lines first d).line)
  open_in_partial line first d partial is =
      let within = some_open names lines partial.open_node in
      open_first line first d partial.tree partial.listed is (omega arith) (front_right set first (places partial.tree) (all_right partial.tree partial.right))

  -- ---- a budget was spent

  module _ (line budget : ℕ) where
    abbrev spent_line : List Node → CertVerdict → Type 0
    spent_line them = BudgetLine line (Some budget) them

    -- all nodes are right, and then the budget decides
    right_then : (tree : CaseTree) (verdict : CertVerdict) → preorder tree ≡ nodes → All (IsRightAt set) (places tree) → spent_line nodes verdict → TreePasses (asks_with set names) (lines_of line (Some budget) lines) verdict
    right_then tree verdict listed right behind = record {
      tree = tree;
      listed = listed;
      passes = all_pass set (Some budget) (spent_line (preorder tree)) lines (places tree) verdict (spent_pass set budget (places tree) (all_right tree right)) (subst (λ (them : List Node). spent_line them verdict) (sym listed) behind);
    }

    pub spent_holds : IsPartial set nodes → leaf_count nodes ≡ budget → TreePasses (asks_with set names) (lines_of line (Some budget) lines) Holds
    spent_holds partial count = right_then partial.tree Holds partial.listed partial.right (record { leaves = count; open_node = partial.open_node }, tt)

    pub other_count : (leaves : ℕ) → IsPartial set nodes → leaf_count nodes ≡ leaves → ¬ (leaves ≡ budget) → TreePasses (asks_with set names) (lines_of line (Some budget) lines) (Fails line)
    other_count leaves partial count other = right_then partial.tree (Fails line) partial.listed partial.right (inl (λ spent. other (sym count ∙ spent.leaves), refl))

    pub none_open : Refutes set nodes → TreePasses (asks_with set names) (lines_of line (Some budget) lines) (Fails line)
    none_open refutes = right_then refutes.tree (Fails line) refutes.listed refutes.right (inl (λ spent. Any-none (λ (node : Node). node ≡ Unclosed) nodes refutes.closed spent.open_node, refl))

    pub wrong_node : (at : ℕ) (d : NodeLine) → IsFirstWrong set nodes at → TreePasses (asks_with set names) (lines_of line (Some budget) lines) (Fails (get_or lines at d).line)
    wrong_node at d wrong =
        let them = places wrong.tree in
        let place = value_of (slice_get them at) (λ (p : Place). ¬ IsRightAt set p) wrong.wrong in
        let right = recursion_from_All (IsRightAt set) (take at them) wrong.right_before in
        let pass = spent_pass set budget (take at them) right in
        record {
          tree = wrong.tree;
          listed = wrong.listed;
          passes = first_fails set (Some budget) (spent_line (preorder wrong.tree)) at lines them d place.0 (wrong_within at wrong) pass place.1 (λ passes. place.2 passes.right);
        }

-- ---- nodes by their places among the forms

-- each form is looked up once
pub numbered : (names : Names) (forms : List NodeName) (places : List NodePlace) → map (λ (place : NodePlace). get_or (map (λ (form : NodeName). node_of names form) forms) place.form Unclosed) places ≡ nodes_of names (placed_lines forms places)
numbered names forms [] = refl
numbered names forms (place ∷ places) =
    let f = λ (form : NodeName). node_of names form in
    ap (λ (node : Node). node ∷ map (λ (p : NodePlace). get_or (map f forms) p.form Unclosed) places) (get_or-map f forms place.form Open)
    ∙ ap (λ (nodes : List Node). node_of names (get_or forms place.form Open) ∷ nodes) (numbered names forms places)

-- the form of one more node
pub one_more_form : (forms : List Node) (places : List NodePlace) (i : ℕ) (old new : List Node) (d e : Node) (first : NodePlace) → i < length places → (get_or places i first).form < length forms
    → old ≡ map (λ (place : NodePlace). get_or forms place.form d) (take i places) → new ≡ old ++ get_or forms (get_or places i first).form e ∷ [] → new ≡ map (λ (place : NodePlace). get_or forms place.form d) (take (i + 1) places)
one_more_form forms places i old new d e first more within before pushed =
    let at = λ (place : NodePlace). get_or forms place.form d in
    pushed ∙ ap (λ (nodes : List Node). nodes ++ get_or forms (get_or places i first).form e ∷ []) before
    ∙ ap (λ (node : Node). map at (take i places) ++ node ∷ []) (get_or_default forms (get_or places i first).form e d within)
    ∙ sym (map_more at places i first more)
