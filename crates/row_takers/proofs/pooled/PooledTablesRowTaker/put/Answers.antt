use Rattle.std.proofs.Common.{◌∙◌, ap}
use Rattle.row_store.specs.Tuple.{ids_of}
use Rattle.row_takers.specs.Taken.{HaveTexts, TablesTaken}
use Rattle.row_takers.proofs.Kept.{pooled-kept, pooled-more, rows-more, tables-kept}
use Rattle.row_takers.proofs.pooled.PooledTablesRowTaker.put.Goals as goal

pub invariant_of-self : goal.invariant_of-self
invariant_of-self c = pooled-kept c.self.inside.pool c.intern_all.new.pool c.intern_all.ensures.kept _ _ c.self.invariant

pub invariant_of-self-in_err-tuple : goal.invariant_of-self-in_err-tuple
invariant_of-self-in_err-tuple c = pooled-kept c.self.inside.pool c.intern_all.new.pool c.intern_all.ensures.kept _ _ c.self.invariant

pub invariant_of-self-in_err-push : goal.invariant_of-self-in_err-push
invariant_of-self-in_err-push c = rw c.in_err-push.ensures.items (pooled-kept c.self.inside.pool c.intern_all.new.pool c.intern_all.ensures.kept _ _ c.self.invariant)

pub invariant_of-self-2 : goal.invariant_of-self-2
invariant_of-self-2 c =
    let named : HaveTexts c.intern_all.new.pool (ids_of c.in_ok-tuple.tuple) = rw (c.in_ok-tuple.ensures.ok, c.as_slice.ensures.value) c.in_ok-intern_all.ensures.named in
    rw c.in_ok-push.ensures.items (pooled-more c.self.inside.pool c.intern_all.new.pool c.intern_all.ensures.kept _ _ c.in_ok-tuple.tuple c.self.invariant named)

pub returns-clause-rows : goal.returns-clause-rows
returns-clause-rows c =
    let ids = c.in_ok-tuple.ensures.ok ∙ c.as_slice.ensures.value in
    rw (c.in_ok-push.ensures.items, ← c.self.view_is)
    (rows-more c.self.inside.pool c.intern_all.new.pool c.intern_all.ensures.kept c.self.inside.tables.items c.self.inside.rows.items c.in_ok-tuple.tuple c.self.invariant _
    (rw ids c.in_ok-intern_all.ensures.texts))

pub returns-clause-beside : goal.returns-clause-beside
returns-clause-beside c =
    tables-kept c.self.inside.pool c.intern_all.new.pool c.intern_all.ensures.kept c.self.inside.tables.items c.self.invariant.tables-named ∙ ap (λ (t : TablesTaken). t.tables) c.self.view_is
