use Rattle.std.proofs.Common.{◌≡◌, map, Ok, Err, refl, sym, subst, Vec, Global}
use Rattle.std.proofs.lemmas.List.Elements.{All-weaker}
use Rattle.std.proofs.lemmas.Result.{err_from_is_err_and}
use Rattle.line_grammar.specs.Faults.{GivesUnlessMemory}
use Rattle.row_store.specs.Tuple.{Tuple}
use Rattle.row_takers.specs.Taken.{AreNamed}
use Rattle.row_takers.proofs.Kept.{named-kept, tables-kept}
use Rattle.bench_core.specs.Loading.{AreTables, CanLoad, full_table, loaded, tables_in}
use Rattle.bench_core.specs.State.{State}
use Rattle.bench_core.specs.Stored.{state_of, stored}
use Rattle.bench_core.specs.declared.loading.LoadedTables.{LoadedTables}
use Rattle.bench_core.proofs.loading.load_all.Goals as goal
use Rattle.bench_core.proofs.loading.load_all.Goals.{In_ok-index, In_ok-counts}

-- the tables have the same texts once the constants of the rules are in the pool
same-texts : (g : _) (c : In_ok-index g) → tables_in c.new.new.pool c.args.tables.items ≡ tables_in c.args.pool.now c.args.tables.items
same-texts g c = tables-kept c.args.pool.now c.new.new.pool c.in_ok-index.ensures.kept c.args.tables.items c.requires.named

-- and can be loaded
can : (g : _) (c : In_ok-counts g) → CanLoad c.args.rules.now c.args.limits.now c.new.new.pool c.args.tables.items c.in_ok-counts.counts c.in_ok-index.index
can g c =
    let old = c.args.pool.now in
    let new = c.new.new.pool in
    let same : tables_in new c.args.tables.items ≡ tables_in old c.args.tables.items = tables-kept old new c.in_ok-index.ensures.kept c.args.tables.items c.requires.named in
    record {
      fit = subst (AreTables c.args.rules.now.schema c.args.limits.now.cell_bytes) (sym same) c.requires.tables;
      named = All-weaker (λ (table : Vec Tuple Global). AreNamed old table.items) (λ (table : Vec Tuple Global). AreNamed new table.items) (λ table. named-kept old new c.in_ok-index.ensures.kept table.items) c.args.tables.items c.requires.named;
      counts = record { weights-is = c.in_ok-counts.ensures.weights; rows-is = c.in_ok-counts.ensures.none.0; cells-is = c.in_ok-counts.ensures.none.1 };
      indexed = record { valid = c.schema-schema.ensures.valid; in_step = c.in_ok-index.ensures.in_step };
    }

pub add_tables-requires-clause-can : goal.add_tables-requires-clause-can
add_tables-requires-clause-can g c = (c.new.new.pool, can g (goal.at.add_tables-requires-clause-can g c).In_ok-counts)

pub returns-in_err-add_tables-clause-loaded : goal.returns-in_err-add_tables-clause-loaded
returns-in_err-add_tables-clause-loaded g c =
    let r = c.from_residual-in_err-add_tables in
    let p = err_from_is_err_and r.result r.ensures.1 in
    let same : r.result ≡ Err c.in_err-add_tables.field-0.0 = rw (p.1, p.2) refl in
    let told : LoadedTables → State = λ all. state_of c.new.new.pool (map stored all.stores.items) in
    subst (GivesUnlessMemory {X = LoadedTables} full_table (loaded c.args.rules.now c.args.limits.now (tables_in c.args.pool.now c.args.tables.items)) told) (sym same)
    (subst (λ tables. GivesUnlessMemory {X = LoadedTables} full_table (loaded c.args.rules.now c.args.limits.now tables) told (Err c.in_err-add_tables.field-0.0))
    (same-texts g (goal.at.returns-in_err-add_tables-clause-loaded g c).In_ok-index) (c.in_err-add_tables.ensures.loaded c.new.new.pool (can g (goal.at.returns-in_err-add_tables-clause-loaded g c).In_ok-counts)))

pub returns-clause-loaded : goal.returns-clause-loaded
returns-clause-loaded g c =
    subst (λ tables. loaded c.args.rules.now c.args.limits.now tables ≡ Ok (state_of c.new.new.pool (map stored c.add_tables.new.stores.items))) (same-texts g (goal.at.returns-clause-loaded g c).In_ok-index)
    (c.in_ok-add_tables.ensures.loaded c.new.new.pool (can g (goal.at.returns-clause-loaded g c).In_ok-counts))

pub returns-clause-held : goal.returns-clause-held
returns-clause-held g c = c.in_ok-add_tables.ensures.held c.new.new.pool (can g (goal.at.returns-clause-held g c).In_ok-counts)
