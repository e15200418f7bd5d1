use Rattle.std.proofs.Common.{arith, rules}
use Rattle.violation_report.specs.Listing.{listing}
use Rattle.violation_report.proofs.Lists.{law_of_length}
use Rattle.violation_report.proofs.Taken.{told}
use Rattle.violation_report.proofs.listing.push_list.Goals as goal

pub returns-clause-text : goal.returns-clause-text
returns-clause-text g c =
    let bench = c.args.bench.now in
    let is = told bench.rules _ (listing bench.rules bench.history.present) c.walk.new.taker c.in_ok-walk.ensures.lines in
    let same = is.same_reference in
    let text = is.text in
    search rules

pub returns-clause-count : goal.returns-clause-count
returns-clause-count g c =
    let bench = c.args.bench.now in
    let count = (told bench.rules _ (listing bench.rules bench.history.present) c.walk.new.taker c.in_ok-walk.ensures.lines).count in
    omega (arith, count)

pub returns-clause-law : goal.returns-clause-law
returns-clause-law g c = law_of_length c.args.bench.now.rules c.args.bench.now.history.present c.walk.new.taker.lines (returns-clause-count g c)
