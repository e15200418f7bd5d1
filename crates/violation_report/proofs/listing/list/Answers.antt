use Rattle.std.proofs.Common.{◌≡◌, ◌++◌, ap, ◌∙◌}
use Rattle.violation_report.specs.Listing.{listing}
use Rattle.violation_report.proofs.Lists.{listing_is_empty, listing_in_range}
use Rattle.violation_report.proofs.Taken.{appended}
use Rattle.violation_report.proofs.listing.list.Given as given
use Rattle.violation_report.proofs.listing.list.Goals as goal

whole : (g : given.Over) (c : goal.In_ok-walk g) → c.walk.new.taker ≡ listing c.args.bench.now.rules c.args.bench.now.history.present
whole g c =
    let all = listing c.args.bench.now.rules c.args.bench.now.history.present in
    appended _ all c.walk.new.taker c.in_ok-walk.ensures.lines ∙ ap (λ lines. lines ++ all) c.new-lines.ensures

pub returns-clause-list : goal.returns-clause-list
returns-clause-list g c = whole g c

pub returns-clause-law : goal.returns-clause-law
returns-clause-law g c = rw (whole g c) (listing_is_empty c.args.bench.now.rules c.args.bench.now.history.present)

pub returns-clause-in_range : goal.returns-clause-in_range
returns-clause-in_range g c = rw (whole g c) (listing_in_range c.args.bench.now.rules c.args.bench.now.history.present)
