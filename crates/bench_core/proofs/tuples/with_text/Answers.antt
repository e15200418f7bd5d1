use Rattle.std.proofs.Common.{map, slice_set, ap, sym, subst, ◌∙◌}
use Rattle.row_store.specs.Tuple.{ids_of}
use Rattle.value_pool.specs.Pool.{HasId}
use Rattle.bench_core.specs.Stored.{HaveTexts, text_of}
use Rattle.bench_core.proofs.Named.{ids-set}
use Rattle.bench_core.proofs.Holding.{ok-weaker}
use Rattle.bench_core.proofs.tuples.with_text.Goals as goal

pub returns-clause-texts : goal.returns-clause-texts
returns-clause-texts c =
    let has : HasId c.intern.new.self c.args.text.now c.in_ok-ids-2.field-0 = rw c.as_str.ensures.bytes at c.in_ok-ids-2.ensures.id in
    let same = c.in_ok-ids.ensures.items ∙ c.as_slice.ensures.value in
    let are = ids-set c.args.pool.now c.intern.new.self (ids_of c.args.tuple.now) c.args.column c.in_ok-ids-2.field-0 c.args.text.now c.requires.named c.intern.ensures.kept has in
    ok-weaker _ _ c.from_vec.result (λ tuple is. ap (map (text_of c.intern.new.self)) (is ∙ ap (λ ids. slice_set ids c.args.column c.in_ok-ids-2.field-0) same) ∙ are.same) c.from_vec.ensures

pub returns-clause-named : goal.returns-clause-named
returns-clause-named c =
    let has : HasId c.intern.new.self c.args.text.now c.in_ok-ids-2.field-0 = rw c.as_str.ensures.bytes at c.in_ok-ids-2.ensures.id in
    let same = c.in_ok-ids.ensures.items ∙ c.as_slice.ensures.value in
    let are = ids-set c.args.pool.now c.intern.new.self (ids_of c.args.tuple.now) c.args.column c.in_ok-ids-2.field-0 c.args.text.now c.requires.named c.intern.ensures.kept has in
    ok-weaker _ (λ tuple. HaveTexts c.intern.new.self (ids_of tuple)) c.from_vec.result (λ tuple is. subst (HaveTexts c.intern.new.self) (sym (is ∙ ap (λ ids. slice_set ids c.args.column c.in_ok-ids-2.field-0) same)) are.named) c.from_vec.ensures
