use Rattle.std.proofs.Common.{refl, sym, subst}
use Rattle.std.specs.Prelude.{IfNone, IfSome}
use Rattle.rule_runs.specs.Starts.{stage_at}
use Rattle.fix_engine.specs.Fixes.{AllEndAt}
use Rattle.fix_engine.specs.Questions.{asked_at}
use Rattle.fix_engine.specs.Rivals.{IsFound, IsRivalOf}
use Rattle.fix_engine.specs.Verdicts.{HasTuplesIn}
use Rattle.fix_engine.proofs.FullRuns.{full_tuple, to_full}
use Rattle.fix_engine.proofs.fixing.verdict_at.Goals as goal
use Rattle.fix_engine.proofs.fixing.verdict_at.Goals.{in-Some, in-None}

pub returns-clause-found : goal.returns-clause-found
returns-clause-found c =
    let start = c.args.start.now in
    let run = c.in_ok-first.first in
    let first = to_full start run c.in_ok-first.ensures.run (c.in_ok-first.ensures.maximal refl) in
    elim c.match-branch-3.branch [
      | in-Some w ↦
          let rival = subst (λ o. IfSome o (IsRivalOf start run)) w.in-Some.is c.in_ok-rival.ensures.rival in
          subst (IsFound (asked_at start)) (sym w.result-is) (first, rival.full, rival.differs)
      | in-None w ↦
          let all = subst (λ o. IfNone o (AllEndAt (asked_at start) (stage_at run))) w.in-None.is c.in_ok-rival.ensures.none in
          subst (IsFound (asked_at start)) (sym w.result-is) (all, first.full)
    ]

pub returns-clause-tuples : goal.returns-clause-tuples
returns-clause-tuples c =
    let start = c.args.start.now in
    let run = c.in_ok-first.first in
    let first = full_tuple start run c.requires (to_full start run c.in_ok-first.ensures.run (c.in_ok-first.ensures.maximal refl)) in
    elim c.match-branch-3.branch [
      | in-Some w ↦
          let rival = subst (λ o. IfSome o (IsRivalOf start run)) w.in-Some.is c.in_ok-rival.ensures.rival in
          subst (HasTuplesIn start.rules.now start.pool.now start.table) (sym w.result-is) (first, full_tuple start w.in-Some.rival.run c.requires rival.full)
      | in-None w ↦ subst (HasTuplesIn start.rules.now start.pool.now start.table) (sym w.result-is) first
    ]
