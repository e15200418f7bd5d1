use Rattle.std.proofs.Common.{take}
use Rattle.std.specs.List.{All}
use Rattle.case_tree.specs.CaseTree.{IsFalseOn}
use Rattle.case_search.proofs.guards.first_not_false.Given as goal

abbrev pub invariant-loop-literal : goal.invariant-loop-literal
invariant-loop-literal l = All (IsFalseOn l.trail.path) (take l.literal-index l.clause)
