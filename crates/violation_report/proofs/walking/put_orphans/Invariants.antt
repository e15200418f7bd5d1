use Rattle.std.proofs.Common.{take}
use Rattle.violation_report.specs.Listing.{cind_lines_at}
use Rattle.violation_report.specs.Taking.{Takes}
use Rattle.violation_report.proofs.walking.put_orphans.Given as goal

abbrev pub invariant-loop-k : goal.invariant-loop-k
invariant-loop-k g l = Takes (g.T.Taker.Took l.rules) l.initial.taker (cind_lines_at l.cind (take l.k-index l.found)) l.taker
