use Rattle.std.proofs.Common.{take}
use Rattle.violation_report.specs.Listing.{dep_lines_at}
use Rattle.violation_report.specs.Taking.{Takes}
use Rattle.violation_report.proofs.walking.put_violations.Given as goal

abbrev pub invariant-loop-k : goal.invariant-loop-k
invariant-loop-k g l = Takes (g.T.Taker.Took l.rules) l.initial.taker (dep_lines_at l.dep (take l.k-index l.found)) l.taker
