use Rattle.std.proofs.Common.{◌≡◌, ◌<◌, List, length, sym, ◌∙◌, subst, ⊎_elim, arith}
use Rattle.std.specs.Prelude.{IfNone}
use Rattle.std.proofs.lemmas.Bool.{cases_lt}
use Rattle.rule_model.specs.declared.edit_rule.EditRule.{EditRule}
use Rattle.rule_runs.specs.Starts.{stage_at}
use Rattle.rule_runs.proofs.StartFacts.{move_within}
use Rattle.fix_engine.specs.Rivals.{AgreesBy}
use Rattle.fix_engine.proofs.rivals.rival_by_move.Goals as goal

pub loop-rule-preserved : goal.loop-rule-preserved
loop-rule-preserved c number row below =
    let start = c.args.start.now in
    let closure = c.args.closure.now in
    let tuple = c.args.first.now.tuple in
    let found = c.in_ok-rival.field-0 in
    let here = subst (λ o. IfNone o ((r : _) → AgreesBy start closure tuple (record { rule = c.loop-rule.rule; master = r }))) c.in_default.is c.in_ok-rival.ensures.none in
    ⊎_elim
    (λ before. c.loop-rule.invariant number row before)
    (λ not_before.
    let e : c.loop-rule.rule ≡ number = omega arith in
    subst (λ n. AgreesBy start closure tuple (record { rule = n; master = row })) e (here row))
    (cases_lt number c.loop-rule.rule)

pub returns-clause-none : goal.returns-clause-none
returns-clause-none c move applies =
    let start = c.args.start.now in
    let all = c.as_slice-rule-end.ensures ∙ c.edits.ensures.edits in
    let within = move_within start (stage_at c.args.closure.now) move applies in
    let here = subst (λ (xs : List EditRule). move.rule < length xs) (sym all) within in
    c.loop-rule.invariant move.rule move.master (omega (arith, here, c.loop-rule-test.false)) applies
