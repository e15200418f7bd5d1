use Rattle.std.proofs.Common.{ℕ, ◌+◌, ◌<◌, ◌∙◌, sym, refl, ap, true, cond, [], ◌∷◌, ◌++◌, length, take, List, Bool, arith}
use Rattle.std.proofs.lemmas.List.{append_assoc}
use Rattle.std.proofs.lemmas.Option.{get_or_from_slice_get}
use Rattle.case_tree.specs.declared.clauses.Literal.{Literal}
use Rattle.cell_values.specs.Literals.{matches_as, literals_where}
use Rattle.cell_values.proofs.LiteralLists.{literal, literals_where-more}
use Rattle.cell_values.proofs.literals.push_where.Goals as goal

pub loop-place-preserved : goal.loop-place-preserved
loop-place-preserved c =
    let test : List ℕ → Bool = matches_as c.args.matching c.args.cell.now in
    let values = c.args.values.now in
    let place = c.loop-place.place in
    let text = c.get.result.now in
    let var = c.args.first + place in
    let within : place < length values = omega (arith, c.len-place-end.ensures.len, c.loop-place-test.true) in
    let more = literals_where-more test true c.args.first values place text var within (get_or_from_slice_get values place text text c.get.ensures) refl in
    let front = literals_where test true c.args.first (take place values) in
    let here : List Literal = cond (test text) (literal var true ∷ []) [] in
    c.in_ok-push_if.ensures
    ∙ ap (λ (b : Bool). c.loop-place.clause.items ++ cond b (literal var true ∷ []) []) c.matches_as-listed.ensures
    ∙ ap (λ (so_far : List Literal). so_far ++ here) c.loop-place.invariant
    ∙ append_assoc c.args.clause.now.items front here
    ∙ sym (ap (λ (all : List Literal). c.args.clause.now.items ++ all) more)
