use Rattle.std.proofs.Common.{[], ◌∷◌, length, refl, ◌∙◌, sym, ap, subst}
use Rattle.std.specs.Prelude.{All}
use Rattle.dep_search.specs.Pairs.{HasAll, IsBelow, same_of}
use Rattle.dep_search.proofs.Listed.{if_ok}
use Rattle.dep_search.proofs.Parted.{lent_tells}
use Rattle.dep_search.proofs.Agreed.{pairs_below, same_below, same_has_all}
use Rattle.dep_search.proofs.ahead.rest_by.Goals as goal

pub returns-clause-below : goal.returns-clause-below
returns-clause-below c =
    let rows = c.args.table.now.rows.now in
    let sample = c.args.sample.now in
    let ids = c.as_slice-2.result.now in
    let below = pairs_below rows (sample.one ∷ sample.other ∷ []) sample.list (length rows) refl c.requires.sample.each in
    if_ok c.same_pairs.result (λ list e.
    subst (All (IsBelow (length rows))) (sym (e ∙ ap (same_of ids) c.as_slice.ensures)) (same_below (length rows) ids sample.list below)) c.same_pairs.ensures

pub returns-clause-all : goal.returns-clause-all
returns-clause-all c =
    let table = c.args.table.now in
    let rows = table.rows.now in
    let sample = c.args.sample.now in
    let attr = c.args.attr in
    let ids = c.as_slice-2.result.now in
    let tells = lent_tells rows table.columns.now attr c.index-table-attr.result c.as_slice-2.result.now c.requires.table.columns c.requires.attr c.index-table-attr.is c.as_slice-2.ensures in
    let all = same_has_all rows (sample.one ∷ sample.other ∷ []) attr ids sample.list tells (c.requires.sample.whole c.requires.whole) in
    if_ok c.same_pairs.result (λ list e.
    subst (HasAll rows (sample.one ∷ sample.other ∷ attr ∷ [])) (sym (e ∙ ap (same_of ids) c.as_slice.ensures)) all) c.same_pairs.ensures
