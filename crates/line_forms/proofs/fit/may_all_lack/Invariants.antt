use Rattle.std.proofs.Common.{◌≡◌, take, true}
use Rattle.std.specs.List.{list_all}
use Rattle.line_forms.specs.Pieces.{may_lack}
use Rattle.line_forms.proofs.fit.may_all_lack.Given as goal

abbrev pub invariant-loop-piece : goal.invariant-loop-piece
invariant-loop-piece l = list_all may_lack (take l.piece-index l.left) ≡ true
