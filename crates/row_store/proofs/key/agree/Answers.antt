use Rattle.std.proofs.Common.{sym, ap, ◌∙◌, get_or, arith}
use Rattle.std.proofs.lemmas.List.{take_all}
use Rattle.std.proofs.lemmas.Slice.Eq.{bytes_eq-Decides}
use Rattle.row_store.specs.Tuple.{ids_at, ids_of}
use Rattle.row_store.proofs.KeyFacts.{differ_at}
use Rattle.row_store.proofs.key.agree.Goals as goal

pub returns-then-as_slice-attribute : goal.returns-then-as_slice-attribute
returns-then-as_slice-attribute c =
    let apart = c.if-as_slice-attribute.true in
    sym (differ_at (ids_of c.args.one.now) (ids_of c.args.other.now) c.args.attributes.now c.loop-attribute.attribute-index (omega arith)
    (λ same. apart (ap (λ xs. get_or xs (get_or c.args.attributes.now c.loop-attribute.attribute-index 0) 0) c.as_slice.ensures.value ∙ same
    ∙ sym (ap (λ xs. get_or xs (get_or c.args.attributes.now c.loop-attribute.attribute-index 0) 0) c.as_slice-in-loop-attribute.ensures.value))))

pub returns : goal.returns
returns c =
    let all = take_all c.loop-attribute.attribute-index c.args.attributes.now (omega arith) in
    let inv = rw all at c.loop-attribute.invariant in
    sym ((bytes_eq-Decides (ids_at (ids_of c.args.one.now) c.args.attributes.now) (ids_at (ids_of c.args.other.now) c.args.attributes.now)).1 inv)
