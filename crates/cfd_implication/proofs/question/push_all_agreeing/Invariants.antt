use Rattle.std.proofs.Common.{◌≡◌, ◌++◌, take}
use Rattle.std.specs.List.{flat_map}
use Rattle.cfd_implication.specs.Question.{agreeing_at}
use Rattle.cfd_implication.proofs.question.push_all_agreeing.Given as goal

abbrev pub invariant-loop-cell : goal.invariant-loop-cell
invariant-loop-cell l = l.out ≡ l.initial.out ++ flat_map (agreeing_at l.cells) (take l.cell-index l.cells)
