use Rattle.std.specs.List.{flat_map}
use Rattle.std.proofs.Common.{◌+◌, take}
use Rattle.cfd_implication.specs.Question.{rule_clauses}
use Rattle.cell_values.proofs.Loops.{appended, flat_take}
use Rattle.cfd_implication.proofs.rows.push_rules.Goals as goal

pub loop-place-preserved : goal.loop-place-preserved
loop-place-preserved c =
    let f = rule_clauses c.args.cells.now in
    let place = c.loop-place.place in
    let rules = c.args.rules.now in
    appended c.push_rule.new.out c.loop-place.out c.args.out.now (flat_map f (take place rules)) (f c.get.result.now) (flat_map f (take (place + 1) rules)) c.in_ok-push_rule.ensures c.loop-place.invariant (flat_take f rules place c.get.result.now c.get.ensures)
