use Rattle.std.proofs.Common.{◌≡◌, ◌+◌, List, ◌∷◌, [], ◌++◌, length, Err, refl, sym, ap, subst, arith}
use Rattle.std.specs.List.{AllZip}
use Rattle.std.proofs.lemmas.List.{take_all}
use Rattle.std.proofs.lemmas.Result.{err_from_is_err_and}
use Rattle.row_takers.specs.Taken.{TablesTaken}
use Rattle.bench_core.specs.Loading.{Tuples}
use Rattle.cli_output.specs.declared.fetching.Stop.TheVariants.{Memory}
use Rattle.cli_output.specs.Fetching.{Fetches}
use Rattle.cli_output.specs.TableFiles.{fetch_table}
use Rattle.cli_output.proofs.EachLoop as each
use Rattle.cli_output.proofs.EachLoop.{under_way-all, under_way-none, under_way-stopped}
use Rattle.project_files.specs.Project.{fetch_tables}
use Rattle.project_files.proofs.TableLoop.{AreRowsOf, IsUnderWay, AllZip-take_more, fetched-as, fetched-in, stopped-as, under_way-out}
use Rattle.project_files.proofs.tables.fetch_pooled.Goals as goal
use Rattle.project_files.proofs.tables.fetch_pooled.Goals.{In_ok-fetch_rows}

pub loop-table-init : goal.loop-table-init
loop-table-init g c =
    let shelf = g.S.Shelf.told c.args.shelf.now in
    record {
      under_way =
          subst (λ (all : TablesTaken). IsUnderWay c.args.limits.now c.args.tables.now 0 all.tables shelf shelf c.args.left.now c.args.left.now) (sym c.new-all.ensures)
          (record { fetched = under_way-none (fetch_table c.args.limits.now) c.args.tables.now shelf c.args.left.now; valid = tt });
      none = ap (λ (all : TablesTaken). all.rows) c.new-all.ensures;
    }

-- the next table was fetched
fetched-more : (g : _) (c : In_ok-fetch_rows g)
    → each.IsUnderWay (fetch_table c.args.limits.now) c.args.tables.now (c.loop-table.table-index + 1) (c.loop-table.all.tables ++ c.fetch_rows.new.taker.rows ∷ [])
    (g.S.Shelf.told c.args.shelf.now) (g.S.Shelf.told c.fetch_rows.new.shelf) c.args.left.now c.fetch_rows.new.left
fetched-more g c =
    let fetch = fetch_table c.args.limits.now in
    let table = c.table-item.result in
    let rows = c.fetch_rows.new.taker.rows in
    let between = g.S.Shelf.told c.loop-table.shelf in
    let after = g.S.Shelf.told c.fetch_rows.new.shelf in
    let one = fetched-as (fetch table) (λ _. rows) 1 between after c.loop-table.left c.fetch_rows.new.left c.in_ok-fetch_rows.field-0 c.in_ok-fetch_rows.ensures.table in
    each.under_way-next fetch c.args.tables.now c.loop-table.table-index c.loop-table.all.tables (g.S.Shelf.told c.args.shelf.now) between after c.args.left.now c.loop-table.left c.fetch_rows.new.left table rows c.loop-table-test.true c.table-item.is
    c.loop-table.invariant.under_way.fetched one

pub loop-table-preserved : goal.loop-table-preserved
loop-table-preserved g c =
    let limits = c.args.limits.now in
    let tables = c.args.tables.now in
    let place = c.loop-table.table-index in
    let table = c.table-item.result in
    let taken = c.fetch_rows.new.taker in
    let before = g.S.Shelf.told c.args.shelf.now in
    let after = g.S.Shelf.told c.fetch_rows.new.shelf in
    let so_far = c.loop-table.invariant.under_way in
    record {
      under_way =
          subst (λ (all : TablesTaken). IsUnderWay limits tables (place + 1) all.tables before after c.args.left.now c.fetch_rows.new.left) (sym c.in_ok-end_table.ensures)
          (subst (λ front. IsUnderWay limits tables (place + 1) (front ++ taken.rows ∷ []) before after c.args.left.now c.fetch_rows.new.left) (sym c.in_ok-fetch_rows.ensures.beside)
          (record {
            fetched = fetched-more g (goal.at.loop-table-preserved g c).In_ok-fetch_rows;
            valid = AllZip-take_more (AreRowsOf limits) tables c.loop-table.all.tables place table taken.rows c.loop-table-test.true c.table-item.is so_far.valid c.in_ok-fetch_rows.ensures.valid;
          }));
      none = ap (λ (all : TablesTaken). all.rows) c.in_ok-end_table.ensures;
    }

pub returns-in_err-fetch_rows-clause-tables : goal.returns-in_err-fetch_rows-clause-tables
returns-in_err-fetch_rows-clause-tables g c =
    let limits = c.args.limits.now in
    let tables = c.args.tables.now in
    let place = c.loop-table.table-index in
    let table = c.table-item.result in
    let stop = c.in_err-fetch_rows.field-0.0 in
    let before = g.S.Shelf.told c.args.shelf.now in
    let between = g.S.Shelf.told c.loop-table.shelf in
    let after = g.S.Shelf.told c.fetch_rows.new.shelf in
    let p = err_from_is_err_and c.from_residual.result c.from_residual.ensures.1 in
    let same : c.from_residual.result ≡ Err stop = rw (p.1, p.2) refl in
    let all : TablesTaken → List Tuples = λ all. all.tables in
    let one = stopped-as (fetch_table limits table) (λ _. c.fetch_rows.new.taker.rows) 1 between after c.loop-table.left c.fetch_rows.new.left (λ rows. rows) stop c.in_err-fetch_rows.ensures.table in
    let stopped = under_way-stopped (fetch_table limits) tables place c.loop-table.all.tables before between after c.args.left.now c.loop-table.left c.fetch_rows.new.left table stop (Err stop) c.loop-table-test.true c.table-item.is refl c.loop-table.invariant.under_way.fetched one in
    subst (λ result. Fetches (fetch_tables limits tables) all (length tables) result before after c.args.left.now c.fetch_rows.new.left) (sym same)
    (stopped-as (fetch_tables limits tables) (λ tables. tables) (length tables) before after c.args.left.now c.fetch_rows.new.left all stop stopped)

pub returns-in_err-end_table-clause-tables : goal.returns-in_err-end_table-clause-tables
returns-in_err-end_table-clause-tables g c =
    let limits = c.args.limits.now in
    let tables = c.args.tables.now in
    let place = c.loop-table.table-index in
    let before = g.S.Shelf.told c.args.shelf.now in
    let after = g.S.Shelf.told c.fetch_rows.new.shelf in
    let so_far = fetched-more g (goal.at.returns-in_err-end_table-clause-tables g c).In_ok-fetch_rows in
    let out = under_way-out (fetch_table limits) (λ (all : TablesTaken). all.tables) tables (place + 1) (c.loop-table.all.tables ++ c.fetch_rows.new.taker.rows ∷ []) before after c.args.left.now c.fetch_rows.new.left (omega (arith, c.loop-table-test.true)) so_far in
    let p = err_from_is_err_and c.from_residual-in_err-end_table.result c.from_residual-in_err-end_table.ensures.1 in
    let same : c.from_residual-in_err-end_table.result ≡ Err Memory = rw (p.1, p.2) refl in
    subst (λ result. Fetches (fetch_tables limits tables) (λ (all : TablesTaken). all.tables) (length tables) result before after c.args.left.now c.fetch_rows.new.left) (sym same) out

pub returns-clause-tables : goal.returns-clause-tables
returns-clause-tables g c =
    let limits = c.args.limits.now in
    let all = under_way-all (fetch_table limits) c.args.tables.now c.loop-table.table-index c.loop-table.all.tables _ _ _ _ c.loop-table-test.false c.loop-table.auto.table-index-end c.loop-table.invariant.under_way.fetched in
    fetched-in (fetch_tables limits c.args.tables.now) (λ (all : TablesTaken). all.tables) (length c.args.tables.now) _ _ _ _ c.loop-table.all all

pub returns-clause-valid : goal.returns-clause-valid
returns-clause-valid g c =
    subst (λ tables. AllZip (AreRowsOf c.args.limits.now) tables c.loop-table.all.tables) (take_all c.loop-table.table-index c.args.tables.now c.loop-table-test.false) c.loop-table.invariant.under_way.valid
