use Rattle.std.proofs.Common.{◌+◌, None, take, sym, subst}
use Rattle.std.specs.List.{AllZip}
use Rattle.std.proofs.lemmas.List.Elements.{All-push}
use Rattle.row_store.specs.Watches.{IsInStep}
use Rattle.bench_index.specs.InStep.{AreInStep}
use Rattle.bench_index.specs.Watching.{cind_watch}
use Rattle.bench_index.specs.Indexes.{IsIndexOfCind}
use Rattle.bench_index.proofs.Zips.{zip_more}
use Rattle.bench_index.proofs.Kept.{kept_after}
use Rattle.bench_index.proofs.Made.{cind_index-kept, empty_cind}
use Rattle.bench_index.proofs.index.indexes_of_cinds.Goals as goal

pub returns-in_err-rule-clause-kept : goal.returns-in_err-rule-clause-kept
returns-in_err-rule-clause-kept c = kept_after c.args.pool.now c.loop-cind.pool c.inclusion_by_ids.new.pool c.loop-cind.invariant.2 c.in_err-rule.ensures.kept

pub returns-in_err-push-clause-kept : goal.returns-in_err-push-clause-kept
returns-in_err-push-clause-kept c = kept_after c.args.pool.now c.loop-cind.pool c.inclusion_by_ids.new.pool c.loop-cind.invariant.2 c.in_ok-rule.ensures.kept

pub loop-cind-preserved : goal.loop-cind-preserved
loop-cind-preserved c =
    let kept = c.in_ok-rule.ensures.kept in
    let one : IsIndexOfCind c.inclusion_by_ids.new.pool c.cind-item.result c.new.result = record { left = c.new.ensures.left; right = c.new.ensures.right; rule = rw c.new.ensures.rule c.in_ok-rule.ensures.by_ids } in
    let none = empty_cind c.new.result c.new.ensures.no_left c.new.ensures.no_right in (
      subst (λ out. AllZip (IsIndexOfCind c.inclusion_by_ids.new.pool) (take (c.loop-cind.cind-index + 1) c.args.cinds.now) out) (sym c.in_ok-push.ensures.items)
          (zip_more (IsIndexOfCind c.loop-cind.pool) (IsIndexOfCind c.inclusion_by_ids.new.pool) (cind_index-kept c.loop-cind.pool c.inclusion_by_ids.new.pool kept) c.args.cinds.now c.loop-cind.all.items c.loop-cind.cind-index c.cind-item.result c.new.result c.loop-cind-test.true c.cind-item.is
          c.loop-cind.invariant.0 one),
      subst (AreInStep cind_watch (λ _ _. None)) (sym c.in_ok-push.ensures.items) (All-push (IsInStep cind_watch (λ _ _. None)) c.loop-cind.all.items c.new.result c.loop-cind.invariant.1 none),
      kept_after c.args.pool.now c.loop-cind.pool c.inclusion_by_ids.new.pool c.loop-cind.invariant.2 kept,
    )
