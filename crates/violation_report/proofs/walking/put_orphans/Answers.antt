use Rattle.violation_report.specs.Listing.{cind_line}
use Rattle.violation_report.specs.Text.{IsLineOf}
use Rattle.violation_report.proofs.Lists.{mapped-at}
use Rattle.violation_report.proofs.walking.put_orphans.Goals as goal

pub put-requires : goal.put-requires
put-requires g c = mapped-at (IsLineOf c.args.rules.now) (λ one. cind_line (c.args.cind, one)) c.args.found.now c.requires c.loop-k.k-index (0, 0) c.loop-k-test.true
