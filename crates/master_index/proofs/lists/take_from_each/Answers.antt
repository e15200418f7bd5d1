use Rattle.std.proofs.Common.{◌<◌, refl, sym, ap, subst, length, arith}
use Rattle.row_store.specs.Tuple.{ids_of}
use Rattle.master_index.specs.declared.column_index.ColumnIndex.{ColumnIndex}
use Rattle.master_index.specs.Between.{Reaches, in_tables, with_one}
use Rattle.master_index.specs.InStep.{IndexIsBetween, IndexIsOver}
use Rattle.master_index.proofs.IndexLists.{reached, so_far_more, ahead_more, lists_more, cost, cost_more, cost_all}
use Rattle.master_index.proofs.lists.take_from_each.Goals as goal

pub remove-requires-clause-wide : goal.remove-requires-clause-wide
remove-requires-clause-wide g c =
    let at = c.loop-index.index-index in
    let item = c.index-item.result in
    let same = sym (c.loop-index.invariant.ahead at item (omega arith)) in
    subst (λ (index : ColumnIndex). Reaches c.args.master (ids_of c.args.tuple.now) index.list) same (reached c.args.columns.now c.args.master (ids_of c.args.tuple.now) c.requires.wide at item (omega arith))

pub remove-requires-clause-wide_left : goal.remove-requires-clause-wide_left
remove-requires-clause-wide_left g c ids is =
    let at = c.loop-index.index-index in
    let item = c.index-item.result in
    let same = sym (c.loop-index.invariant.ahead at item (omega arith)) in
    subst (λ (index : ColumnIndex). Reaches c.args.master ids index.list) same (reached c.args.columns.now c.args.master ids (c.requires.wide_left ids is) at item (omega arith))

pub remove-requires-clause-between : goal.remove-requires-clause-between
remove-requires-clause-between g c =
    let at = c.loop-index.index-index in
    let item = c.index-item.result in
    let same = sym (c.loop-index.invariant.ahead at item (omega arith)) in
    let named = in_tables c.args.tables.now.stores.items in
    subst (IndexIsBetween named (with_one named c.args.master c.args.row (ids_of c.args.tuple.now))) same (c.requires.between at item (omega arith))

pub loop-index-init : goal.loop-index-init
loop-index-init g c = record { done = λ k d below. absurd (omega arith); ahead = λ k d past. refl; lists = refl; probes = omega arith }

pub loop-index-preserved : goal.loop-index-preserved
loop-index-preserved g c =
    let at = c.loop-index.index-index in
    let item = c.index-item.result in
    let was = c.args.columns.now in
    let now = c.loop-index.columns in
    let inv = c.loop-index.invariant in
    let within : at < length now = omega arith in
    let same = inv.ahead at item (omega arith) in
    let paid = ap (λ (index : ColumnIndex). cost c.args.master index.list) same in
    let more = cost_more was c.args.master at item (omega arith) in
    record {
      done = so_far_more was now at c.remove.new.self within (IndexIsOver (in_tables c.args.tables.now.stores.items)) inv.done c.remove.ensures.in_step;
      ahead = ahead_more was now at c.remove.new.self within inv.ahead;
      lists = lists_more was now at c.remove.new.self within item c.remove.ensures.list inv.lists;
      probes = omega (arith, inv.probes, c.remove.ensures.probes, paid, more);
    }

pub returns-clause-in_step : goal.returns-clause-in_step
returns-clause-in_step g c k d within = c.loop-index.invariant.done k d (omega arith)

pub returns-clause-probes : goal.returns-clause-probes
returns-clause-probes g c = omega (arith, c.loop-index.invariant.probes, cost_all c.args.columns.now c.args.master c.loop-index.index-index (omega arith))
