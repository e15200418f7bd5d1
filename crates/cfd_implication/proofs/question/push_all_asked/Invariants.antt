use Rattle.std.proofs.Common.{◌≡◌, ◌++◌, take}
use Rattle.std.specs.List.{flat_map}
use Rattle.cfd_implication.specs.Question.{asked_clauses}
use Rattle.cfd_implication.proofs.question.push_all_asked.Given as goal

abbrev pub invariant-loop-row : goal.invariant-loop-row
invariant-loop-row l = l.out ≡ l.initial.out ++ flat_map (asked_clauses l.cells l.dep.rule) (take l.row-index l.row-items)
