use Rattle.violation_report.specs.declared.json.Objects.{Objects}
use Rattle.violation_report.proofs.Reports.{objects-more}
use Rattle.violation_report.proofs.json.ObjectsTaker.put.Goals as goal

pub returns : goal.returns
returns c = λ start before took right.
    let was = took right in
    let end : Objects = record { text = c.push_object.new.out; frame = c.fit.new.self } in
    objects-more c.args.rules.now c.args.line start c.args.self.now end before c.is_some-later.result was (c.in_ok-fit.ensures was.frame) c.is_some-later.ensures c.in_ok-push_object.ensures
