use Rattle.std.proofs.Common.{sym, ◌∙◌, length, subst, ◌<◌, arith}
use Rattle.rule_model.specs.declared.edit_rule.EditRule.{EditRule}
use Rattle.std.proofs.Common.{List}
use Rattle.rule_runs.specs.Starts.{stage_of}
use Rattle.rule_runs.proofs.StartFacts.{move_within}
use Rattle.rule_runs.proofs.next.first_move.Goals as goal

pub returns-clause-none : goal.returns-clause-none
returns-clause-none c move applies =
    let all = c.as_slice-rule-items.ensures ∙ c.edits.ensures.edits in
    let within = move_within c.args.start.now (stage_of c.args.tuple.now c.args.z) move applies in
    let here = subst (λ (xs : List EditRule). move.rule < length xs) (sym all) within in
    c.loop-number.invariant move.rule move.master (omega (arith, here, c.loop-number-test.false)) applies
