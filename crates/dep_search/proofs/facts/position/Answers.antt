use Rattle.std.proofs.Common.{◌∙◌, ap, sym}
use Rattle.dep_search.specs.declared.facts.Facts.{Facts}
use Rattle.dep_search.proofs.Known.{stands_here}
use Rattle.dep_search.proofs.facts.position.Goals as goal

pub returns-then-is_same : goal.returns-then-is_same
returns-then-is_same c =
    stands_here c.args.store.now c.loop-place.place c.index-store-place.result c.args.x.now c.loop-place-test.true c.index-store-place.is
    (ap (λ (facts : Facts). facts.x) c.index-store-place.is ∙ sym c.as_slice.ensures ∙ c.is_same.ensures c.if-is_same.true)
