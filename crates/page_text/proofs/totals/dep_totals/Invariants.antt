use Rattle.std.proofs.Common.{◌≡◌, take}
use Rattle.page_text.specs.Totals.{dep_totals}
use Rattle.page_text.proofs.totals.dep_totals.Given as goal

abbrev pub invariant-loop-groups : goal.invariant-loop-groups
invariant-loop-groups l = l.totals ≡ dep_totals (take l.groups-index l.all)
