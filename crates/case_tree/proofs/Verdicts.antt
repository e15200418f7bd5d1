-- A list of nodes has one verdict.
use Rattle.std.proofs.Common.{◌≡◌, ℕ, ◌<◌, List, take, sym, ap, ◌∙◌, subst, ⊎_elim, arith}
use Rattle.std.specs.Prelude.{slice_get}
use Rattle.std.specs.List.{All}
use Rattle.std.proofs.lemmas.Bool.{cases_order}
use Rattle.std.proofs.lemmas.List.{length-take, get_or-take}
use Rattle.std.proofs.lemmas.Option.{slice_get_within, get_or_from_slice_get}
use Rattle.case_tree.specs.declared.checker.Checked.{Checked}
use Rattle.case_tree.specs.declared.checker.Checked.TheVariants.{Closed, Partial, Wrong}
use Rattle.case_tree.specs.declared.tree.Node.{Node}
use Rattle.case_tree.specs.declared.tree.Node.TheVariants.{Unclosed}
use Rattle.case_tree.specs.CaseTree.{ClauseSet, CaseTree, Place, preorder, places, IsRightAt, Refutes, IsPartial, IsFirstWrong, leaf_count}
use Rattle.case_tree.specs.Verdict.{IsVerdict}
use Rattle.case_tree.proofs.Lists.{All-at, Any-none, value_of}
use Rattle.case_tree.proofs.Preorder.{same_tree}

-- a tree whose nodes are right has none that is wrong
none_wrong : (set : ClauseSet) (nodes : List Node) (at : ℕ) (tree : CaseTree) → preorder tree ≡ nodes → All (IsRightAt set) (places tree) → IsFirstWrong set nodes at → ⊥
none_wrong set nodes at tree listed right wrong =
    let (place, there, not_right) = value_of (slice_get (places wrong.tree) at) (λ (place : Place). ¬ IsRightAt set place) wrong.wrong in
    not_right (All-at (IsRightAt set) (places wrong.tree) at place (subst (λ (t : CaseTree). All (IsRightAt set) (places t)) (same_tree tree wrong.tree nodes listed wrong.listed) right) there)

-- and only one node is the first that is wrong
not_before : (set : ClauseSet) (nodes : List Node) (at later : ℕ) → IsFirstWrong set nodes at → IsFirstWrong set nodes later → at < later → ⊥
not_before set nodes at later first second lt =
    let (place, there, not_right) = value_of (slice_get (places first.tree) at) (λ (place : Place). ¬ IsRightAt set place) first.wrong in
    let xs = places first.tree in
    let right = subst (λ (t : CaseTree). All (IsRightAt set) (take later (places t))) (same_tree second.tree first.tree nodes second.listed first.listed) second.right_before in
    let in_range = slice_get_within xs at place there in
    let short = length-take later xs in
    not_right (subst (IsRightAt set) (get_or-take later xs at place lt ∙ get_or_from_slice_get xs at place place there) (right at place (omega arith)))

same_first_wrong : (set : ClauseSet) (nodes : List Node) (at other : ℕ) → IsFirstWrong set nodes at → IsFirstWrong set nodes other → at ≡ other
same_first_wrong set nodes at other first second =
    ⊎_elim
    (λ same. same)
    (λ differ. absurd (⊎_elim (not_before set nodes at other first second) (not_before set nodes other at second first) differ))
    (cases_order at other)

-- no tree is closed and open
not_both : (set : ClauseSet) (nodes : List Node) → Refutes set nodes → IsPartial set nodes → ⊥
not_both set nodes closed open_one = Any-none (λ (node : Node). node ≡ Unclosed) nodes closed.closed open_one.open_node

pub IsVerdict-closed : (set : ClauseSet) (nodes : List Node) (answer : Checked) (leaves : ℕ) → IsVerdict set nodes answer → Refutes set nodes → leaf_count nodes ≡ leaves → answer ≡ Closed leaves
IsVerdict-closed set nodes (Closed n) leaves verdict refuted counted = ap Closed (sym verdict.1 ∙ counted)
IsVerdict-closed set nodes (Partial n) leaves verdict refuted counted = absurd (not_both set nodes refuted verdict.0)
IsVerdict-closed set nodes (Wrong at) leaves verdict refuted counted = absurd (none_wrong set nodes at refuted.tree refuted.listed refuted.right verdict)

pub IsVerdict-partial : (set : ClauseSet) (nodes : List Node) (answer : Checked) (leaves : ℕ) → IsVerdict set nodes answer → IsPartial set nodes → leaf_count nodes ≡ leaves → answer ≡ Partial leaves
IsVerdict-partial set nodes (Closed n) leaves verdict open_one counted = absurd (not_both set nodes verdict.0 open_one)
IsVerdict-partial set nodes (Partial n) leaves verdict open_one counted = ap Partial (sym verdict.1 ∙ counted)
IsVerdict-partial set nodes (Wrong at) leaves verdict open_one counted = absurd (none_wrong set nodes at open_one.tree open_one.listed open_one.right verdict)

pub IsVerdict-wrong : (set : ClauseSet) (nodes : List Node) (answer : Checked) (at : ℕ) → IsVerdict set nodes answer → IsFirstWrong set nodes at → answer ≡ Wrong at
IsVerdict-wrong set nodes (Closed n) at verdict wrong = absurd (none_wrong set nodes at verdict.0.tree verdict.0.listed verdict.0.right wrong)
IsVerdict-wrong set nodes (Partial n) at verdict wrong = absurd (none_wrong set nodes at verdict.0.tree verdict.0.listed verdict.0.right wrong)
IsVerdict-wrong set nodes (Wrong other) at verdict wrong = ap Wrong (same_first_wrong set nodes other at verdict wrong)
