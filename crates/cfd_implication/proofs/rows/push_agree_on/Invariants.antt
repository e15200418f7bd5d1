use Rattle.std.proofs.Common.{◌≡◌, ◌++◌, take, map}
use Rattle.cfd_implication.specs.Question.{agree_on}
use Rattle.cfd_implication.proofs.rows.push_agree_on.Given as goal

abbrev pub invariant-loop-attr : goal.invariant-loop-attr
invariant-loop-attr l = l.out ≡ l.initial.out ++ map (agree_on l.cells) (take l.attr-index l.attrs)
