use Rattle.std.proofs.Common.{map, subst, sym, ap, ◌∙◌}
use Rattle.dep_search.specs.Found.{IsInOrder}
use Rattle.dep_search.specs.Keys.{candidate_of}
use Rattle.dep_search.proofs.InOrder.{in_order}
use Rattle.dep_search.proofs.Listed.{if_ok}
use Rattle.dep_search.proofs.sorting.sorted.Goals as goal

pub returns : goal.returns
returns c =
    let ordered = in_order c.args.rows.now c.args.sides.now c.args.found.now c.in_ok-keys.keys.items c.sort.new.self.items c.in_ok-keys.ensures.same c.in_ok-keys.ensures.each
    c.in_ok-sort.ensures.permutation c.in_ok-sort.ensures.sorted in
    if_ok c.candidates_of.result (λ list e. subst (IsInOrder c.args.rows.now c.args.sides.now c.args.found.now) (sym (e ∙ ap (map candidate_of) c.as_slice.ensures.value)) ordered)
    c.candidates_of.ensures
