use Rattle.std.proofs.Common.{◌+◌, None, take, refl, sym, ap, subst}
use Rattle.std.specs.List.{AllZip}
use Rattle.std.proofs.lemmas.List.Elements.{All-push}
use Rattle.row_store.specs.Watches.{IsInStep}
use Rattle.group_index.specs.GroupSet.{GroupSet}
use Rattle.bench_index.specs.InStep.{AreInStep}
use Rattle.bench_index.specs.Watching.{group_watch}
use Rattle.bench_index.specs.Indexes.{IsIndexOfDep}
use Rattle.bench_index.proofs.Zips.{zip_more}
use Rattle.bench_index.proofs.Kept.{kept_after}
use Rattle.bench_index.proofs.Made.{index-kept, empty_group}
use Rattle.bench_index.proofs.index.indexes_of_deps.Goals as goal

pub returns-in_err-rule-clause-kept : goal.returns-in_err-rule-clause-kept
returns-in_err-rule-clause-kept c = kept_after c.args.pool.now c.loop-dep.pool c.dependency_by_ids.new.pool c.loop-dep.invariant.2 c.in_err-rule.ensures.kept

pub returns-in_err-push-clause-kept : goal.returns-in_err-push-clause-kept
returns-in_err-push-clause-kept c = kept_after c.args.pool.now c.loop-dep.pool c.dependency_by_ids.new.pool c.loop-dep.invariant.2 c.in_ok-rule.ensures.kept

pub loop-dep-preserved : goal.loop-dep-preserved
loop-dep-preserved c =
    let kept = c.in_ok-rule.ensures.kept in
    let one : IsIndexOfDep c.dependency_by_ids.new.pool c.dep-item.result c.new.result = rw c.new.ensures (record { table = refl; rule = rw (c.into_vec-x.ensures, c.into_vec-rows.ensures) c.in_ok-rule.ensures.by_ids }) in
    let none = empty_group c.new.result (ap (λ (s : GroupSet). s.entries) c.new.ensures) in (
      subst (λ out. AllZip (IsIndexOfDep c.dependency_by_ids.new.pool) (take (c.loop-dep.dep-index + 1) c.args.deps.now) out) (sym c.in_ok-push.ensures.items)
          (zip_more (IsIndexOfDep c.loop-dep.pool) (IsIndexOfDep c.dependency_by_ids.new.pool) (index-kept c.loop-dep.pool c.dependency_by_ids.new.pool kept) c.args.deps.now c.loop-dep.all.items c.loop-dep.dep-index c.dep-item.result c.new.result c.loop-dep-test.true c.dep-item.is
          c.loop-dep.invariant.0 one),
      subst (AreInStep group_watch (λ _ _. None)) (sym c.in_ok-push.ensures.items) (All-push (IsInStep group_watch (λ _ _. None)) c.loop-dep.all.items c.new.result c.loop-dep.invariant.1 none),
      kept_after c.args.pool.now c.loop-dep.pool c.dependency_by_ids.new.pool c.loop-dep.invariant.2 kept,
    )
