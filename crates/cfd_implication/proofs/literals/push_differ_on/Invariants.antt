use Rattle.std.proofs.Common.{◌≡◌, ◌++◌, take}
use Rattle.cfd_implication.specs.Question.{differ_on}
use Rattle.cfd_implication.proofs.literals.push_differ_on.Given as goal

abbrev pub invariant-loop-attr : goal.invariant-loop-attr
invariant-loop-attr l = l.clause.items ≡ l.initial.clause.items ++ differ_on l.cells (take l.attr-index l.attrs)
