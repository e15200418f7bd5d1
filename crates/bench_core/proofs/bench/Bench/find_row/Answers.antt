use Rattle.std.proofs.Common.{refl, sym, ◌∙◌}
use Rattle.std.proofs.lemmas.Slice.Zip.{AllZip-long}
use Rattle.row_store.specs.Tuple.{ids_of}
use Rattle.bench_core.specs.Stored.{stored, table_state}
use Rattle.bench_core.proofs.Planned.{have-texts, texts-absent, texts-there}
use Rattle.bench_core.proofs.RowsAt.{row-known, row-unknown, texts-at}
use Rattle.bench_core.proofs.bench.Bench.find_row.Goals as goal

pub store-requires : goal.store-requires
store-requires c =
    let within = rw (c.schema.ensures.schema, c.rules.ensures.value) at c.in-Some.ensures.found.0 in
    rw (AllZip-long _ _ _ c.rules.ensures.valid.present.tables) within

pub returns-in-Some-get-clause-named : goal.returns-in-Some-get-clause-named
returns-in-Some-get-clause-named c =
    let bench = c.args.self.now in
    let within = rw (c.schema.ensures.schema, c.rules.ensures.value) at c.in-Some.ensures.found.0 in
    let place = rw (c.schema.ensures.schema, c.rules.ensures.value, c.as_str.ensures.bytes) at (sym c.in-Some.ensures.place) in
    let store = stored c.store.result.now in
    let ids = ids_of c.in-Some-get.tuple.now in
    row-known bench.rules bench.history.present c.args.table.now c.args.row c.in-Some.number (table_state bench.texts store) place within c.store.ensures.state _ (texts-there bench.texts store c.args.row ids (sym c.in-Some-get.ensures))

pub returns-in-Some-get-clause-there : goal.returns-in-Some-get-clause-there
returns-in-Some-get-clause-there c =
    let bench = c.args.self.now in
    let within = rw (c.schema.ensures.schema, c.rules.ensures.value) at c.in-Some.ensures.found.0 in
    let place = rw (c.schema.ensures.schema, c.rules.ensures.value, c.as_str.ensures.bytes) at (sym c.in-Some.ensures.place) in
    let store = stored c.store.result.now in
    let ids = ids_of c.in-Some-get.tuple.now in
    let at = sym c.in-Some-get.ensures in (
      refl,
      place,
      record {
        there = within;
        row = texts-at bench.history.present c.in-Some.number c.args.row (table_state bench.texts store) c.store.ensures.state ∙ texts-there bench.texts store c.args.row ids at;
        named = have-texts bench.texts store c.args.row ids c.store.ensures.texts at;
      },
    )

pub returns-in-None-clause-refused : goal.returns-in-None-clause-refused
returns-in-None-clause-refused c =
    let bench = c.args.self.now in
    let within = rw (c.schema.ensures.schema, c.rules.ensures.value) at c.in-Some.ensures.found.0 in
    let place = rw (c.schema.ensures.schema, c.rules.ensures.value, c.as_str.ensures.bytes) at (sym c.in-Some.ensures.place) in
    let store = stored c.store.result.now in (
      row-unknown bench.rules bench.history.present c.args.table.now c.args.row c.in-Some.number (table_state bench.texts store) place within c.store.ensures.state (texts-absent bench.texts store c.args.row (sym c.in-None.ensures)),
      λ same. let e = same in cc,
    )
