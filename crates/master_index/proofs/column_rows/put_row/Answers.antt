use Rattle.std.proofs.Common.{ap, ◌∙◌, slice_get, arith}
use Rattle.row_store.specs.Tuple.{ids_of}
use Rattle.master_index.specs.ColumnRows.{listed}
use Rattle.master_index.specs.Tables.{rows_of_tables}
use Rattle.master_index.proofs.KeyedRowFacts.{entered, lent_rises, lent_has_rows, kept_written, put_answer, err_answer, notes_stay, compared_answer, value_twice}
use Rattle.master_index.proofs.column_rows.put_row.Goals as goal

pub index-requires : goal.index-requires
index-requires g c =
    let e = c.in_ok-place.ensures in
    (entered c.args.map.now.entries c.find_or_push.new.map.entries c.args.key c.args.row c.in_ok-place.place c.requires e.index e.found e.pushed).within

pub index_mut-requires : goal.index_mut-requires
index_mut-requires g c =
    let e = c.in_ok-place.ensures in
    (entered c.args.map.now.entries c.find_or_push.new.map.entries c.args.key c.args.row c.in_ok-place.place c.requires e.index e.found e.pushed).within

pub put-requires : goal.put-requires
put-requires g c =
    let e = c.in_ok-place.ensures in
    let it = entered c.args.map.now.entries c.find_or_push.new.map.entries c.args.key c.args.row c.in_ok-place.place c.requires e.index e.found e.pushed in
    lent_rises c.find_or_push.new.map.entries c.in_ok-place.place c.index_mut.result.now it.kept c.index_mut.ensures.value

pub returns-clause-kept : goal.returns-clause-kept
returns-clause-kept g c =
    let e = c.in_ok-place.ensures in
    let it = entered c.args.map.now.entries c.find_or_push.new.map.entries c.args.key c.args.row c.in_ok-place.place c.requires e.index e.found e.pushed in
    let some = lent_has_rows c.find_or_push.new.map.entries c.in_ok-place.place c.index_mut.result.now it.kept c.index_mut.ensures.value in
    kept_written c.find_or_push.new.map.entries c.in_ok-place.place c.put.new.self it.kept c.put.ensures.rising (omega (arith, some, c.put.ensures.no_fewer))

pub returns-clause-ok : goal.returns-clause-ok
returns-clause-ok g c =
    let e = c.in_ok-place.ensures in
    let it = entered c.args.map.now.entries c.find_or_push.new.map.entries c.args.key c.args.row c.in_ok-place.place c.requires e.index e.found e.pushed in
    put_answer c.args.map.now.entries c.find_or_push.new.map e.unique c.args.key.items c.args.row c.in_ok-place.place c.index_mut.result.now c.put.new.self it c.index_mut.ensures.value c.put.result c.put.ensures.ok

pub returns-clause-err : goal.returns-clause-err
returns-clause-err g c =
    let e = c.in_ok-place.ensures in
    let it = entered c.args.map.now.entries c.find_or_push.new.map.entries c.args.key c.args.row c.in_ok-place.place c.requires e.index e.found e.pushed in
    err_answer c.args.map.now.entries c.find_or_push.new.map e.unique c.args.key.items c.args.row c.in_ok-place.place c.index_mut.result.now c.put.new.self it c.index_mut.ensures.value c.put.result c.put.ensures.err c.put.ensures.new

pub returns-clause-noted : goal.returns-clause-noted
returns-clause-noted g c =
    let e = c.in_ok-place.ensures in
    let it = entered c.args.map.now.entries c.find_or_push.new.map.entries c.args.key c.args.row c.in_ok-place.place c.requires e.index e.found e.pushed in
    notes_stay c.args.map.now.entries c.find_or_push.new.map e.unique c.args.key.items c.args.row c.in_ok-place.place c.index_mut.result.now c.put.new.self it c.index_mut.ensures.value c.put.ensures.noted

pub returns-clause-compared : goal.returns-clause-compared
returns-clause-compared g c =
    let e = c.in_ok-place.ensures in
    let it = entered c.args.map.now.entries c.find_or_push.new.map.entries c.args.key c.args.row c.in_ok-place.place c.requires e.index e.found e.pushed in
    let same = value_twice c.find_or_push.new.map.entries c.in_ok-place.place c.index.result.now c.index_mut.result.now c.index.ensures c.index_mut.ensures.value in
    let rows = c.as_slice.ensures ∙ ap listed same in
    compared_answer c.args.map.now.entries c.find_or_push.new.map e.unique c.args.key.items c.args.row c.in_ok-place.place c.index_mut.result.now c.put.new.self it c.index_mut.ensures.value
    (rows_of_tables c.args.tables.now.stores.items) c.args.master (ids_of c.args.tuple.now) c.apart_from_first-apart.result
    (λ first held at. c.apart_from_first-apart.ensures first held (ap (λ rows. slice_get rows 0) rows ∙ at)) c.put.result c.put.ensures.apart
