use Rattle.std.proofs.Common.{◌≡◌, length, arith, ◌∙◌}
use Rattle.dep_search.proofs.Told.{ids_within}
use Rattle.dep_search.proofs.columns.column.Goals as goal

pub returns-clause-within : goal.returns-clause-within
returns-clause-within c =
    let rows = c.args.rows.now in
    let all : c.loop-row.row-index ≡ length rows = omega (arith, c.loop-row.auto.row-index-end, c.loop-row-test.false) in
    ids_within rows c.args.attr c.loop-row.ids c.loop-row.pool (c.loop-row.invariant.long ∙ all) (omega (arith, all, c.loop-row.invariant.few))
    (λ r rl. c.loop-row.invariant.each r (omega (arith, all, rl)))
