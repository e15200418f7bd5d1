use Rattle.std.proofs.Common.{[], ◌∷◌, ◌∙◌, sym}
use Rattle.dep_search.proofs.Parted.{lent_tells}
use Rattle.dep_search.proofs.Agreed.{apart_refutes, pairs_below}
use Rattle.dep_search.proofs.samples.is_apart_at.Goals as goal

pub is_apart-requires : goal.is_apart-requires
is_apart-requires c =
    let table = c.args.table.now in
    let tells = lent_tells table.rows.now table.columns.now c.args.a c.index-table-a.result c.as_slice.result.now c.requires.table.columns c.requires.a c.index-table-a.is c.as_slice.ensures in
    pairs_below table.rows.now (c.args.one ∷ c.args.other ∷ []) c.args.pairs.now _ tells.long c.requires.pairs

pub returns : goal.returns
returns c = λ e.
    let table = c.args.table.now in
    let tells = lent_tells table.rows.now table.columns.now c.args.a c.index-table-a.result c.as_slice.result.now c.requires.table.columns c.requires.a c.index-table-a.is c.as_slice.ensures in
    apart_refutes table.rows.now (c.args.one ∷ c.args.other ∷ []) c.args.a c.as_slice.result.now c.args.pairs.now tells c.requires.pairs (sym c.is_apart.ensures ∙ e)
