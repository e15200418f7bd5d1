use Rattle.std.proofs.Common.{◌≡◌, Some, sym, ap, subst, ◌∙◌, arith}
use Rattle.std.specs.Prelude.{All}
use Rattle.std.specs.FinMap as finite
use Rattle.std.specs.Option.{ForSome}
use Rattle.row_store.specs.Tuple.{ids_of}
use Rattle.std.proofs.lemmas.Option.{same_Some}
use Rattle.master_index.specs.Between.{in_rows, with_one}
use Rattle.master_index.specs.InStep.{IndexIsBetween, IsInStepWith}
use Rattle.master_index.specs.Masters.{IsWideFor, MasterRows, lists_of}
use Rattle.master_index.specs.Tables.{rows_of_tables}
use Rattle.master_index.proofs.IndexLists.{lists_in}
use Rattle.master_index.proofs.MasterRowFacts.{row_after_insert, row_now}
use Rattle.master_index.proofs.MasterSteps.{row_is_wide, written_whole, kept_alike, kept_later, changed_each}
use Rattle.master_index.proofs.index.MasterIndex.replace.Goals as goal

pub add_to_all-requires-clause-wide : goal.add_to_all-requires-clause-wide
add_to_all-requires-clause-wide g c =
    let wide = subst (λ m. IsWideFor m.lists c.args.master (ids_of c.args.tuple.now)) (sym c.self.view_is) c.requires.wide in
    subst (λ xs. IsWideFor (lists_in xs) c.args.master (ids_of c.args.tuple.now)) (sym c.as_mut_slice-columns.ensures.value) wide

pub add_to_all-requires-clause-wide_left : goal.add_to_all-requires-clause-wide_left
add_to_all-requires-clause-wide_left g c =
    let rows = rows_of_tables c.self.inside.tables.stores.items in
    subst (λ xs. ForSome (finite.get rows (c.args.master, c.args.row)) (IsWideFor (lists_in xs) c.args.master)) (sym c.as_mut_slice-columns.ensures.value)
    (row_is_wide c.self.inside.columns.items rows c.args.master c.args.row c.self.invariant.wide)

pub add_to_all-requires-clause-in_step : goal.add_to_all-requires-clause-in_step
add_to_all-requires-clause-in_step g c = subst (All (IsInStepWith (rows_of_tables c.self.inside.tables.stores.items))) (sym c.as_mut_slice-columns.ensures.value) c.self.invariant.in_step

pub invariant_of-self : goal.invariant_of-self
invariant_of-self g c =
    let was = c.self.inside.columns.items in
    let new = c.add_to_all.new.columns in
    let lists = c.add_to_all.ensures.lists ∙ ap lists_in c.as_mut_slice-columns.ensures.value in
    rw (written_whole c.self.inside.columns.len was new (omega arith) lists)
    (kept_alike was new (rows_of_tables c.self.inside.tables.stores.items) c.self.invariant.wide lists c.in_err-add_to_all.ensures.err)

pub returns-in_err-add_to_all-clause-lists : goal.returns-in_err-add_to_all-clause-lists
returns-in_err-add_to_all-clause-lists g c =
    let was = c.self.inside.columns.items in
    let lists = c.add_to_all.ensures.lists ∙ ap lists_in c.as_mut_slice-columns.ensures.value in
    rw (written_whole c.self.inside.columns.len was c.add_to_all.new.columns (omega arith) lists) (lists ∙ ap (λ m. m.lists) c.self.view_is)

-- the rows with the new tuple
pub take_from_each-requires-clause-wide : goal.take_from_each-requires-clause-wide
take_from_each-requires-clause-wide g c =
    let old = ids_of c.replace-old.result in
    let lists = c.add_to_all.ensures.lists ∙ ap lists_in c.as_mut_slice-columns.ensures.value in
    subst (λ all. IsWideFor all c.args.master old) (sym lists)
    (row_is_wide c.self.inside.columns.items (rows_of_tables c.self.inside.tables.stores.items) c.args.master c.args.row c.self.invariant.wide old c.replace-old.ensures.old)

pub take_from_each-requires-clause-wide_left : goal.take_from_each-requires-clause-wide_left
take_from_each-requires-clause-wide_left g c left there =
    let ids = ids_of c.args.tuple.now in
    let rows = rows_of_tables c.self.inside.tables.stores.items in
    let lists = c.add_to_all.ensures.lists ∙ ap lists_in c.as_mut_slice-columns.ensures.value in
    let wide = subst (λ m. IsWideFor m.lists c.args.master ids) (sym c.self.view_is) c.requires.wide in
    let later = c.replace-old.ensures.rows ∙ ap (finite.insert rows (c.args.master, c.args.row)) c.in_ok-shared.ensures.cases in
    let same : ids ≡ left = same_Some ids left (sym (row_now rows c.args.master c.args.row ids) ∙ ap (λ m. finite.get m (c.args.master, c.args.row)) (sym later) ∙ there) in
    subst (IsWideFor (lists_in c.add_to_all.new.columns) c.args.master) same (subst (λ all. IsWideFor all c.args.master ids) (sym lists) wide)

pub take_from_each-requires-clause-between : goal.take_from_each-requires-clause-between
take_from_each-requires-clause-between g c =
    let old = ids_of c.replace-old.result in
    let ids = ids_of c.args.tuple.now in
    let rows = rows_of_tables c.self.inside.tables.stores.items in
    let later = c.replace-old.ensures.rows ∙ ap (finite.insert rows (c.args.master, c.args.row)) c.in_ok-shared.ensures.cases in
    subst (λ (m : MasterRows). All (IndexIsBetween (in_rows m) (with_one (in_rows m) c.args.master c.args.row old)) c.add_to_all.new.columns) (sym later)
    (changed_each c.add_to_all.new.columns rows c.args.master c.args.row old ids c.replace-old.ensures.old c.in_ok-add_to_all.ensures.ok)

pub invariant_of-self-2 : goal.invariant_of-self-2
invariant_of-self-2 g c =
    let was = c.self.inside.columns.items in
    let new = c.take_from_each.new.columns in
    let ids = ids_of c.args.tuple.now in
    let rows = rows_of_tables c.self.inside.tables.stores.items in
    let lists = c.take_from_each.ensures.lists ∙ c.add_to_all.ensures.lists ∙ ap lists_in c.as_mut_slice-columns.ensures.value in
    let wide = subst (λ m. IsWideFor m.lists c.args.master ids) (sym c.self.view_is) c.requires.wide in
    let later = c.replace-old.ensures.rows ∙ ap (finite.insert rows (c.args.master, c.args.row)) c.in_ok-shared.ensures.cases in
    rw (written_whole c.self.inside.columns.len was new (omega arith) lists, later) (kept_later was new rows (finite.insert rows (c.args.master, c.args.row) ids) c.args.master c.args.row (Some ids) c.self.invariant.wide lists wide
    (λ t r. row_after_insert rows c.args.master c.args.row t r ids) (subst (λ (m : MasterRows). All (IsInStepWith m) new) later c.take_from_each.ensures.in_step))

pub returns-clause-ok : goal.returns-clause-ok
returns-clause-ok g c =
    c.replace-old.ensures.rows
    ∙ ap (λ m. finite.insert m.rows (c.args.master, c.args.row) (ids_of c.in_ok-shared.shared)) c.self.view_is
    ∙ ap (finite.insert c.args.self.now.rows (c.args.master, c.args.row)) c.in_ok-shared.ensures.cases

pub returns-clause-lists : goal.returns-clause-lists
returns-clause-lists g c =
    let was = c.self.inside.columns.items in
    let lists = c.take_from_each.ensures.lists ∙ c.add_to_all.ensures.lists ∙ ap lists_in c.as_mut_slice-columns.ensures.value in
    rw (written_whole c.self.inside.columns.len was c.take_from_each.new.columns (omega arith) lists) (lists ∙ ap (λ m. m.lists) c.self.view_is)

pub returns-clause-probes : goal.returns-clause-probes
returns-clause-probes g c =
    let lists = c.add_to_all.ensures.lists in
    let first = ap (λ xs. lists_of (lists_in xs) c.args.master) c.as_mut_slice-columns.ensures.value ∙ ap (λ m. lists_of m.lists c.args.master) c.self.view_is in
    let second = ap (λ all. lists_of all c.args.master) lists in
    omega (arith, c.in_ok-add_to_all.ensures.probes, c.take_from_each.ensures.probes, first, second)
