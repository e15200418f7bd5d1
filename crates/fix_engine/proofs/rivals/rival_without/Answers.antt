use Rattle.std.proofs.Common.{refl, ◌∙◌, subst}
use Rattle.std.specs.Prelude.{IfNone}
use Rattle.rule_runs.specs.declared.moves.Move.{Move}
use Rattle.fix_engine.specs.Rivals.{AgreesBy}
use Rattle.fix_engine.proofs.FullRuns.{IfNone-then, leads_on}
use Rattle.fix_engine.proofs.rivals.rival_without.Goals as goal

pub returns-clause-none : goal.returns-clause-none
returns-clause-none c =
    let start = c.args.start.now in
    let closure = c.in_ok-closure.closure in
    let tuple = c.args.first.now.tuple in
    IfNone-then c.compare.result c.compare.ensures.none (λ same. record {
      closure = closure;
      run = c.in_ok-closure.ensures.run;
      out = c.in_ok-closure.ensures.left ∙ c.requires.out;
      closed = c.in_ok-closure.ensures.closed;
      leads = leads_on start closure.moves tuple closure c.in_ok-extend.field-0 refl c.in_ok-extend.ensures.goes_on c.in_ok-extend.ensures.run same;
      each = subst (λ o. IfNone o ((move : Move) → AgreesBy start closure tuple move)) c.in_default.is c.in_ok-rival.ensures.none;
    })
