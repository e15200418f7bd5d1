use Rattle.std.proofs.Common.{◌<◌, take}
use Rattle.std.specs.List.{All}
use Rattle.case_tree.specs.declared.clauses.Literal.{Literal}
use Rattle.case_tree.specs.CaseTree.{literals_of}
use Rattle.case_tree.proofs.clauses.are_below.Given as goal

abbrev pub invariant-loop-clause : goal.invariant-loop-clause
invariant-loop-clause l = All (All (λ (literal : Literal). literal.var < l.vars)) (take l.clause-index (literals_of l.clauses))
