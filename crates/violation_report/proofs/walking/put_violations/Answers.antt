use Rattle.std.proofs.Common.{sym, subst}
use Rattle.violation_report.specs.Listing.{dep_line}
use Rattle.violation_report.specs.Text.{IsLineOf}
use Rattle.violation_report.proofs.Lists.{mapped-at}
use Rattle.violation_report.proofs.walking.put_violations.Goals as goal

pub put-requires : goal.put-requires
put-requires g c =
    let rules = c.args.rules.now in
    subst (IsLineOf rules) (sym c.dep_line.ensures) (mapped-at (IsLineOf rules) (λ one. dep_line (c.args.dep, one)) c.args.found.now c.requires c.loop-k.k-index _ c.loop-k-test.true)
