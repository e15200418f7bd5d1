use Rattle.std.proofs.Common.{◌≡◌, take}
use Rattle.page_text.specs.Totals.{largest}
use Rattle.page_text.proofs.totals.largest.Given as goal

abbrev pub invariant-loop-count : goal.invariant-loop-count
invariant-loop-count l = l.most ≡ largest (take l.count-index l.counts)
