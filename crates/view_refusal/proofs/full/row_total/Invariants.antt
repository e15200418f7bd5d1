use Rattle.std.proofs.Common.{◌≡◌, take}
use Rattle.view_refusal.specs.Full.{row_total}
use Rattle.view_refusal.proofs.full.row_total.Given as goal

abbrev pub invariant-loop-rows : goal.invariant-loop-rows
invariant-loop-rows l = l.total ≡ row_total (take l.rows-index l.all)
