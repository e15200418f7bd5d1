use Rattle.std.specs.List.{flat_map}
use Rattle.std.proofs.Common.{◌+◌, [], take}
use Rattle.cell_values.proofs.Loops.{appended, flat_take}
use Rattle.cfd_consistency.specs.Question.{rule_clauses}
use Rattle.cfd_consistency.proofs.clauses.clauses_of.Goals as goal

pub loop-place-preserved : goal.loop-place-preserved
loop-place-preserved c =
    let f = rule_clauses c.args.values.now in
    let place = c.loop-place.place in
    let rules = c.args.rules.now in
    appended c.push_rule.new.clauses c.loop-place.clauses [] (flat_map f (take place rules)) (f c.get.result.now) (flat_map f (take (place + 1) rules)) c.in_ok-push_rule.ensures c.loop-place.invariant (flat_take f rules place c.get.result.now c.get.ensures)
