use Rattle.std.proofs.Common.{◌≡◌, true, false, [], ◌∷◌, ◌∙◌, sym}
use Rattle.dep_search.specs.Found.{determines, is_plain}
use Rattle.dep_search.specs.Pairs.{is_apart}
use Rattle.dep_search.proofs.Parted.{lent_tells}
use Rattle.dep_search.proofs.Agreed.{least_three, not_true, surely_determined}
use Rattle.dep_search.proofs.ahead.is_surely_plain.Goals as goal

pub returns-clause-plain : goal.returns-clause-plain
returns-clause-plain c = λ e.
    let table = c.args.table.now in
    let rows = table.rows.now in
    let a = c.args.a in
    let p = c.requires.parts in
    let one = c.args.parts.now.front.now.one in
    let two = c.args.parts.now.front.now.other in
    let three = c.args.parts.now.back.now.other in
    let known = c.if-not-are_apart.false in
    let tells = lent_tells rows table.columns.now a c.index-table-a.result c.as_slice.result.now c.requires.table.columns c.requires.a c.index-table-a.is c.as_slice.ensures in
    let together : is_apart c.as_slice.result.now c.args.rest.now ≡ false = sym c.is_apart.ensures ∙ not_true c.is_apart.result e in
    let all : determines rows c.args.x.now a ≡ true = surely_determined rows c.args.x.now a c.as_slice.result.now c.args.rest.now tells c.requires.all together in
    let all_three : determines rows (one ∷ two ∷ three ∷ []) a ≡ true = sym (λ i. determines rows (p.attrs i) a) ∙ all in
    let front : determines rows (one ∷ two ∷ []) a ≡ false = p.front.apart a (c.are_apart.ensures.front known) in
    let ends : determines rows (one ∷ three ∷ []) a ≡ false = sym (λ i. determines rows (p.first i ∷ p.last i ∷ []) a) ∙ p.ends.apart a (c.are_apart.ensures.ends known) in
    let back : determines rows (two ∷ three ∷ []) a ≡ false = sym (λ i. determines rows (p.middle i ∷ three ∷ []) a) ∙ p.back.apart a (c.are_apart.ensures.back known) in
    (λ i. is_plain rows (p.attrs i) a) ∙ least_three rows one two three a all_three front ends back
