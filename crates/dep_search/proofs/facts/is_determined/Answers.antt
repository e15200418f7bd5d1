use Rattle.std.proofs.Common.{◌≡◌, List, ℕ, true, subst}
use Rattle.dep_search.specs.Found.{determines}
use Rattle.dep_search.proofs.Closed.{any_at}
use Rattle.dep_search.proofs.facts.is_determined.Goals as goal

pub returns-then-is_known : goal.returns-then-is_known
returns-then-is_known c = λ _.
    let rows = c.args.table.now.rows.now in
    any_at (λ part. determines rows part c.args.a) c.args.parts.now c.loop-k.k c.index-parts-k.result c.loop-k-test.true c.index-parts-k.is
    (subst (λ (part : List ℕ). determines rows part c.args.a ≡ true) c.as_slice.ensures (c.is_known.ensures c.if-is_known.true))
