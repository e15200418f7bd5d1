use Rattle.std.proofs.Common.{◌<◌, refl, sym, ap, subst, length, get_or, arith}
use Rattle.row_store.specs.Tuple.{ids_of}
use Rattle.master_index.specs.declared.column_index.ColumnIndex.{ColumnIndex}
use Rattle.master_index.specs.Between.{Reaches, in_tables, with_one}
use Rattle.master_index.specs.InStep.{IndexIsBetween, IndexIsOver}
use Rattle.master_index.proofs.BetweenFacts.{at_err, less_sure, more_open}
use Rattle.master_index.proofs.IndexLists.{reached, so_far_more, ahead_more, lists_more, stopped, cost, cost_more, cost_within, cost_all}
use Rattle.master_index.proofs.lists.add_to_each.Goals as goal

pub add-requires-clause-wide : goal.add-requires-clause-wide
add-requires-clause-wide g c =
    let at = c.loop-index.index-index in
    let item = c.index-item.result in
    let same = sym (c.loop-index.invariant.ahead at item (omega arith)) in
    subst (λ (index : ColumnIndex). Reaches c.args.master (ids_of c.args.tuple.now) index.list) same (reached c.args.columns.now c.args.master (ids_of c.args.tuple.now) c.requires.wide at item (omega arith))

pub add-requires-clause-in_step : goal.add-requires-clause-in_step
add-requires-clause-in_step g c =
    let at = c.loop-index.index-index in
    let item = c.index-item.result in
    let same = sym (c.loop-index.invariant.ahead at item (omega arith)) in
    subst (IndexIsOver (in_tables c.args.tables.now.stores.items)) same (c.requires.in_step at item (omega arith))

pub loop-index-init : goal.loop-index-init
loop-index-init g c = record { done = λ k d below. absurd (omega arith); ahead = λ k d past. refl; lists = refl; probes = omega arith }

pub loop-index-preserved : goal.loop-index-preserved
loop-index-preserved g c =
    let at = c.loop-index.index-index in
    let item = c.index-item.result in
    let was = c.args.columns.now in
    let now = c.loop-index.columns in
    let inv = c.loop-index.invariant in
    let within : at < length now = omega arith in
    let same = inv.ahead at item (omega arith) in
    let paid = ap (λ (index : ColumnIndex). cost c.args.master index.list) same in
    let more = cost_more was c.args.master at item (omega arith) in
    record {
      done = so_far_more was now at c.add.new.self within (IndexIsOver (with_one (in_tables c.args.tables.now.stores.items) c.args.master c.args.row (ids_of c.args.tuple.now))) inv.done c.in_ok-add.ensures.ok;
      ahead = ahead_more was now at c.add.new.self within inv.ahead;
      lists = lists_more was now at c.add.new.self within item c.add.ensures.list inv.lists;
      probes = omega (arith, inv.probes, c.add.ensures.probes, paid, more);
    }

pub returns-in_err-add-clause-err : goal.returns-in_err-add-clause-err
returns-in_err-add-clause-err g c =
    let at = c.loop-index.index-index in
    let was = c.args.columns.now in
    let now = c.loop-index.columns in
    let inv = c.loop-index.invariant in
    let within : at < length now = omega arith in
    let named = in_tables c.args.tables.now.stores.items in
    let tuple = ids_of c.args.tuple.now in
    let Q = IndexIsBetween named (with_one named c.args.master c.args.row tuple) in
    at_err c.from_residual.result (stopped was now at c.add.new.self within Q (omega arith)
    (λ k d below. less_sure named (get_or now k d).list (get_or now k d).rows.entries c.args.master c.args.row tuple (inv.done k d below))
    inv.ahead
    (more_open named c.add.new.self.list c.add.new.self.rows.entries c.args.master c.args.row tuple c.in_err-add.ensures.err)
    (λ k d inside. more_open named (get_or was k d).list (get_or was k d).rows.entries c.args.master c.args.row tuple (c.requires.in_step k d inside)))

pub returns-in_err-add-clause-lists : goal.returns-in_err-add-clause-lists
returns-in_err-add-clause-lists g c =
    let at = c.loop-index.index-index in
    let now = c.loop-index.columns in
    let within : at < length now = omega arith in
    lists_more c.args.columns.now now at c.add.new.self within c.index-item.result c.add.ensures.list c.loop-index.invariant.lists

pub returns-in_err-add-clause-probes : goal.returns-in_err-add-clause-probes
returns-in_err-add-clause-probes g c =
    let at = c.loop-index.index-index in
    let item = c.index-item.result in
    let same = c.loop-index.invariant.ahead at item (omega arith) in
    let paid = ap (λ (index : ColumnIndex). cost c.args.master index.list) same in
    omega (arith, c.loop-index.invariant.probes, c.add.ensures.probes, paid, cost_within c.args.columns.now c.args.master at item (omega arith))

pub returns-clause-ok : goal.returns-clause-ok
returns-clause-ok g c k d within = c.loop-index.invariant.done k d (omega arith)

pub returns-clause-probes : goal.returns-clause-probes
returns-clause-probes g c = omega (arith, c.loop-index.invariant.probes, cost_all c.args.columns.now c.args.master c.loop-index.index-index (omega arith))
