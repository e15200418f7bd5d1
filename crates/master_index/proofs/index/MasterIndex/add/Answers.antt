use Rattle.std.proofs.Common.{Some, sym, ap, subst, ◌∙◌, arith}
use Rattle.std.specs.Prelude.{All}
use Rattle.std.specs.FinMap as finite
use Rattle.std.specs.Option.{ForSome}
use Rattle.row_store.specs.Tuple.{ids_of}
use Rattle.master_index.specs.Between.{in_rows, with_one}
use Rattle.master_index.specs.InStep.{IndexIsOver, IsInStepWith}
use Rattle.master_index.specs.Masters.{IsWideFor, MasterRows}
use Rattle.master_index.specs.Tables.{rows_of_tables}
use Rattle.master_index.proofs.IndexLists.{lists_in}
use Rattle.master_index.proofs.MasterRowFacts.{row_after_insert}
use Rattle.master_index.proofs.MasterSteps.{row_is_wide, written_whole, kept_alike, kept_later, added_each}
use Rattle.master_index.proofs.index.MasterIndex.add.Goals as goal

pub add_to_all-requires-clause-wide : goal.add_to_all-requires-clause-wide
add_to_all-requires-clause-wide g c =
    let wide = subst (λ m. IsWideFor m.lists c.args.master (ids_of c.args.tuple.now)) (sym c.self.view_is) c.requires.wide in
    subst (λ xs. IsWideFor (lists_in xs) c.args.master (ids_of c.args.tuple.now)) (sym c.as_mut_slice-columns.ensures.value) wide

pub add_to_all-requires-clause-wide_left : goal.add_to_all-requires-clause-wide_left
add_to_all-requires-clause-wide_left g c =
    let rows = rows_of_tables c.self.inside.tables.stores.items in
    let wide = row_is_wide c.self.inside.columns.items rows c.args.master c.args.row c.self.invariant.wide in
    subst (λ (m : MasterRows). ForSome (finite.get m (c.args.master, c.args.row)) (IsWideFor (lists_in c.as_mut_slice-columns.result.now) c.args.master)) (sym c.ready.ensures.rows)
    (subst (λ xs. ForSome (finite.get rows (c.args.master, c.args.row)) (IsWideFor (lists_in xs) c.args.master)) (sym c.as_mut_slice-columns.ensures.value) wide)

pub add_to_all-requires-clause-in_step : goal.add_to_all-requires-clause-in_step
add_to_all-requires-clause-in_step g c =
    let rows = rows_of_tables c.self.inside.tables.stores.items in
    subst (λ (m : MasterRows). All (IsInStepWith m) c.as_mut_slice-columns.result.now) (sym c.ready.ensures.rows)
    (subst (All (IsInStepWith rows)) (sym c.as_mut_slice-columns.ensures.value) c.self.invariant.in_step)

pub invariant_of-self-in_err-add_to_all : goal.invariant_of-self-in_err-add_to_all
invariant_of-self-in_err-add_to_all g c =
    let was = c.self.inside.columns.items in
    let new = c.add_to_all.new.columns in
    let lists = c.add_to_all.ensures.lists ∙ ap lists_in c.as_mut_slice-columns.ensures.value in
    let whole = written_whole c.self.inside.columns.len was new (omega arith) lists in
    rw (whole, c.ready.ensures.rows) (kept_alike was new (rows_of_tables c.self.inside.tables.stores.items) c.self.invariant.wide lists
    (subst (λ (m : MasterRows). All (IsInStepWith m) new) c.ready.ensures.rows c.in_err-add_to_all.ensures.err))

pub returns-in_err-add_to_all-clause-lists : goal.returns-in_err-add_to_all-clause-lists
returns-in_err-add_to_all-clause-lists g c =
    let was = c.self.inside.columns.items in
    let lists = c.add_to_all.ensures.lists ∙ ap lists_in c.as_mut_slice-columns.ensures.value in
    rw (written_whole c.self.inside.columns.len was c.add_to_all.new.columns (omega arith) lists) (lists ∙ ap (λ m. m.lists) c.self.view_is)

pub invariant_of-self-2 : goal.invariant_of-self-2
invariant_of-self-2 g c =
    let was = c.self.inside.columns.items in
    let new = c.add_to_all.new.columns in
    let ids = ids_of c.args.tuple.now in
    let rows = rows_of_tables c.self.inside.tables.stores.items in
    let lists = c.add_to_all.ensures.lists ∙ ap lists_in c.as_mut_slice-columns.ensures.value in
    let whole = written_whole c.self.inside.columns.len was new (omega arith) lists in
    let wide = subst (λ m. IsWideFor m.lists c.args.master ids) (sym c.self.view_is) c.requires.wide in
    let absent = ap (λ m. finite.get m.rows (c.args.master, c.args.row)) c.self.view_is ∙ c.requires.absent in
    let later = c.put.ensures
    ∙ ap (λ m. finite.insert m (c.args.master, c.args.row) (ids_of c.in_ok-shared.shared)) c.ready.ensures.rows
    ∙ ap (finite.insert rows (c.args.master, c.args.row)) c.in_ok-shared.ensures.cases in
    let each = subst (λ (m : MasterRows). All (IndexIsOver (with_one (in_rows m) c.args.master c.args.row ids)) new) c.ready.ensures.rows c.in_ok-add_to_all.ensures.ok in
    rw (whole, later) (kept_later was new rows (finite.insert rows (c.args.master, c.args.row) ids) c.args.master c.args.row (Some ids) c.self.invariant.wide lists wide
    (λ t r. row_after_insert rows c.args.master c.args.row t r ids) (added_each new rows c.args.master c.args.row ids absent each))

pub returns-clause-ok : goal.returns-clause-ok
returns-clause-ok g c =
    c.put.ensures
    ∙ ap (λ m. finite.insert m (c.args.master, c.args.row) (ids_of c.in_ok-shared.shared)) (c.ready.ensures.rows ∙ ap (λ m. m.rows) c.self.view_is)
    ∙ ap (finite.insert c.args.self.now.rows (c.args.master, c.args.row)) c.in_ok-shared.ensures.cases

pub returns-clause-lists : goal.returns-clause-lists
returns-clause-lists g c =
    let was = c.self.inside.columns.items in
    let lists = c.add_to_all.ensures.lists ∙ ap lists_in c.as_mut_slice-columns.ensures.value in
    rw (written_whole c.self.inside.columns.len was c.add_to_all.new.columns (omega arith) lists) (lists ∙ ap (λ m. m.lists) c.self.view_is)
