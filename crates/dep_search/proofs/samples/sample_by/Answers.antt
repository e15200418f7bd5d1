use Rattle.std.proofs.Common.{◌≡◌, true, false, [], ◌∷◌, ◌∙◌, sym, ap, subst, ⊎_elim}
use Rattle.std.specs.Prelude.{All}
use Rattle.std.proofs.lemmas.Bool.{cases_Bool}
use Rattle.std.proofs.lemmas.List.Elements.{All-nil}
use Rattle.dep_search.specs.Pairs.{HasAll, IsPair, same_of}
use Rattle.dep_search.proofs.Parted.{lent_tells}
use Rattle.dep_search.proofs.Agreed.{same_has_all, same_pairs_agree}
use Rattle.dep_search.proofs.samples.sample_by.Goals as goal

pub all_apart-requires-clause-pairs : goal.all_apart-requires-clause-pairs
all_apart-requires-clause-pairs c =
    let table = c.args.table.now in
    let rows = table.rows.now in
    let from = c.args.from.now in
    let by = c.args.by in
    let ids = c.as_slice-2.result.now in
    let tells = lent_tells rows table.columns.now by c.index-table-by.result c.as_slice-2.result.now c.requires.table.columns c.requires.by c.index-table-by.is c.as_slice-2.ensures in
    let list = c.as_slice-3.ensures ∙ c.in_ok-list.ensures ∙ ap (same_of ids) c.as_slice.ensures in
    subst (All (IsPair rows (from.attr ∷ by ∷ []))) (sym list) (same_pairs_agree rows (from.attr ∷ []) by ids from.list tells c.requires.from.each)

pub returns : goal.returns
returns c =
    let table = c.args.table.now in
    let rows = table.rows.now in
    let from = c.args.from.now in
    let by = c.args.by in
    let ids = c.as_slice-2.result.now in
    let tells = lent_tells rows table.columns.now by c.index-table-by.result c.as_slice-2.result.now c.requires.table.columns c.requires.by c.index-table-by.is c.as_slice-2.ensures in
    let list : c.in_ok-list.list ≡ same_of ids from.list = c.in_ok-list.ensures ∙ ap (same_of ids) c.as_slice.ensures in
    record {
      each =
          ⊎_elim
          (λ (e : c.is_whole-whole.result ≡ true).
          subst (All (IsPair rows (from.attr ∷ by ∷ []))) (sym (c.if_whole.ensures.whole e ∙ list))
          (same_pairs_agree rows (from.attr ∷ []) by ids from.list tells c.requires.from.each))
          (λ (e : c.is_whole-whole.result ≡ false).
          subst (All (IsPair rows (from.attr ∷ by ∷ []))) (sym (c.if_whole.ensures.others e)) (All-nil (IsPair rows (from.attr ∷ by ∷ []))))
          (cases_Bool c.is_whole-whole.result);
      whole = λ e.
          subst (HasAll rows (from.attr ∷ by ∷ [])) (sym (c.if_whole.ensures.whole e ∙ list))
          (same_has_all rows (from.attr ∷ []) by ids from.list tells (c.requires.from.whole (c.is_whole-whole.ensures e)));
      apart = c.in_ok-apart.ensures;
    }
