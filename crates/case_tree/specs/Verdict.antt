-- What the checker answers, case by case.
use Rattle.std.specs.Prelude.{◌≡◌, List}
use Rattle.case_tree.specs.declared.checker.Checked.{Checked}
use Rattle.case_tree.specs.declared.checker.Checked.TheVariants.{Closed, Partial, Wrong}
use Rattle.case_tree.specs.declared.tree.Node.{Node}
use Rattle.case_tree.specs.CaseTree.{ClauseSet, Refutes, IsPartial, IsFirstWrong, leaf_count}

-- The answer tells what the nodes are.
abbrev pub IsVerdict : ClauseSet → List Node → Checked → Type 0
IsVerdict set nodes (Closed leaves) = Refutes set nodes × (leaf_count nodes ≡ leaves)
IsVerdict set nodes (Partial leaves) = IsPartial set nodes × (leaf_count nodes ≡ leaves)
IsVerdict set nodes (Wrong node) = IsFirstWrong set nodes node
