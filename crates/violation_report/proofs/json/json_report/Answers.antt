use Rattle.std.proofs.Common.{◌≡◌, [], ◌∷◌, length, codes}
use Rattle.std.specs.Prelude.{decimal}
use Rattle.std.specs.List.{concat}
use Rattle.violation_report.specs.Listing.{listing}
use Rattle.violation_report.specs.declared.json.Objects.{Objects}
use Rattle.violation_report.proofs.Reports.{report_written}
use Rattle.violation_report.proofs.json.json_report.Goals as goal

pub returns-clause-report : goal.returns-clause-report
returns-clause-report g c =
    let rules = c.args.bench.now.rules in
    let all = listing rules c.args.bench.now.history.present in
    let start : Objects = record { text = c.in_ok-text.text; frame = c.new.result } in
    let head : c.in_ok-text.text.items ≡ concat (codes "{\"count\":" ∷ decimal (length all) ∷ codes ",\"lines\":[" ∷ []) = rw c.in_ok-lines.ensures.count at c.in_ok-text.ensures in
    report_written rules all start c.walk.new.taker _ head c.new.ensures c.in_ok-walk.ensures.lines c.in_ok-extend_from_slice.ensures.items
