use Rattle.std.proofs.Common.{sym, ap, ◌∙◌, get_or, arith}
use Rattle.std.proofs.lemmas.List.{take_all}
use Rattle.std.proofs.lemmas.Slice.Eq.{bytes_eq-Decides}
use Rattle.row_store.specs.Tuple.{ids_at, ids_of}
use Rattle.cind_index.proofs.Values.{differ_from}
use Rattle.cind_index.proofs.ids.has_ids.Goals as goal

pub returns-then-as_slice-attribute : goal.returns-then-as_slice-attribute
returns-then-as_slice-attribute c =
    let apart = c.if-as_slice-attribute.true in
    sym (differ_from c.args.ids.now (ids_of c.args.tuple.now) c.args.attributes.now c.loop-place.place (omega arith) (omega arith)
    (λ same. apart (ap (λ xs. get_or xs (get_or c.args.attributes.now c.loop-place.place 0) 0) c.as_slice.ensures.value ∙ same)))

pub returns : goal.returns
returns c =
    let all = take_all c.loop-place.place c.args.attributes.now (omega arith) in
    let also = take_all c.loop-place.place c.args.ids.now (omega arith) in
    let inv = rw (all, also) at c.loop-place.invariant in
    sym ((bytes_eq-Decides c.args.ids.now (ids_at (ids_of c.args.tuple.now) c.args.attributes.now)).1 inv)
