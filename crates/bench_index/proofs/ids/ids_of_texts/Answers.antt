use Rattle.std.proofs.Common.{◌+◌, take, sym, subst}
use Rattle.std.specs.List.{AllZip}
use Rattle.value_pool.specs.Pool.{HasId}
use Rattle.bench_index.proofs.Zips.{zip_more}
use Rattle.bench_index.proofs.Kept.{kept_after}
use Rattle.bench_index.proofs.ids.ids_of_texts.Goals as goal

pub loop-text-preserved : goal.loop-text-preserved
loop-text-preserved c =
    let kept = c.in_ok-intern.ensures.kept in (
      subst (λ out. AllZip (HasId c.intern.new.self) (take (c.loop-text.text-index + 1) c.args.texts.now) out) (sym c.in_ok-push.ensures.ok)
          (zip_more (HasId c.loop-text.pool) (HasId c.intern.new.self) kept c.args.texts.now c.loop-text.ids c.loop-text.text-index c.text-item.result c.in_ok-intern.field-0 c.loop-text-test.true c.text-item.is
          c.loop-text.invariant.0 (subst (λ text. HasId c.intern.new.self text c.in_ok-intern.field-0) c.as_str.ensures.bytes c.in_ok-intern.ensures.id)),
      kept_after c.args.pool.now c.loop-text.pool c.intern.new.self c.loop-text.invariant.1 kept,
    )
